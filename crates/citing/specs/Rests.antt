-- What a proof rests on.
--
-- given_by live g    the rows that the names of g hold, and the live entries of its book
use Rattle.std.specs.Prelude.{ℕ, Option}
use Rattle.terms.specs.Named.{rows_of}
use Rattle.book.specs.declared.entry.Entry.{Entry}
use Rattle.soundness.specs.Given.{Given as Rests, given}
use Rattle.citing.specs.declared.given.Given.{Given}

abbrev pub given_by : {R : Type 0} → (R → ℕ → Option Entry) → Given R → Rests
given_by live g = given (rows_of g.names.now) (live g.book.now)
