-- The largest number of each kind that a line may hold.
--
-- gate_limit        of a gate number
-- code_limit        of a form, and of the standing that `file` is given
-- small_limit       of an operand, a row or a serial
-- record_limit      of the records of a ledger
-- standing_limit    of the standing of an entry that a book holds already
use Rattle.std.specs.Prelude.{ℕ}

abbrev pub gate_limit : ℕ
gate_limit = 4294967295

abbrev pub code_limit : ℕ
code_limit = 255

abbrev pub small_limit : ℕ
small_limit = 65535

abbrev pub record_limit : ℕ
record_limit = 1000000

abbrev pub standing_limit : ℕ
standing_limit = 2
