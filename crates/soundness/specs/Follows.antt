-- What follows from the live rules and sayings.
--
-- RulesHold M g         every live rule holds at all worlds of the structure M
-- SayingsHold M g       every live saying holds at the start
-- Follows g r            the statement of row r holds at the start of every finite structure in which the live rules hold at all worlds and the live sayings at the start
use Rattle.std.specs.Prelude.{◌≡◌, ℕ, Some}
use Rattle.terms.specs.Truth.{Structure, Holds, Finite, structure}
use Rattle.terms.specs.Written.{Statement, statement_written}
use Rattle.book.specs.declared.entry.Standing.TheVariants.{Rule, Saying}
use Rattle.soundness.specs.Given.{Given, Live}

abbrev pub RulesHold : {W : Type 0} → Structure W → Given → Type 0
RulesHold {W} M g =
    (serial n : ℕ) (s : Statement) → Live g Rule serial n → statement_written g.rows n ≡ Some s → (w : W) → Holds M s w

abbrev pub SayingsHold : {W : Type 0} → Structure W → Given → Type 0
SayingsHold M g =
    (serial n : ℕ) (s : Statement) → Live g Saying serial n → statement_written g.rows n ≡ Some s → Holds M s M.start

abbrev pub Follows : Given → ℕ → Type 0
Follows g r =
    (s : Statement) × ((statement_written g.rows r ≡ Some s) ×
    ((f : Finite) → RulesHold (structure f) g → SayingsHold (structure f) g → Holds (structure f) s (structure f).start))
