-- What filing and striking at a gate do, in the subject's words.
--
-- FiledAt before serial standing row r after    denied 4, denied 5, or filed in the book; the names never change
-- StruckAt before serial r after                struck in the book; the names never change
use Rattle.std.specs.Prelude.{◌≡◌, ℕ, Some, None, Err, Result, ◌≢◌}
use Rattle.std.specs.List.{slice_get}
use Rattle.denials.specs.declared.denial.Denial.{Denial}
use Rattle.terms.specs.declared.row.StatementRow.{StatementRow}
use Rattle.denials.specs.Denials.{denied}
use Rattle.book.specs.declared.entry.Standing.{Standing}
use Rattle.book.specs.declared.entry.Standing.TheVariants.{Rule, Saying}
use Rattle.book.specs.Laws.{Filed, Struck}
use Rattle.gate.specs.State.{State, with_book, entry_of}

-- 1 is a rule, 2 a saying
pub data Stands : ℕ → Standing → Type 0 where
  as_rule : Stands 1 Rule
  as_saying : Stands 2 Saying

pub data FiledAt (before : State) (serial standing row : ℕ) (r : Result (Unit {0}) Denial) (after : State) : Type 0 where
  no_standing :
      (standing ≢ 1) → (standing ≢ 2) → r ≡ Err (denied 4 0) → after ≡ before →
      FiledAt before serial standing row r after
  no_row :
      (s : Standing) → Stands standing s → slice_get before.rows.statements row ≡ None → r ≡ Err (denied 5 0) → after ≡ before →
      FiledAt before serial standing row r after
  by_book :
      (s : Standing) → Stands standing s → (t : StatementRow) → slice_get before.rows.statements row ≡ Some t →
      Filed before.book (entry_of serial s row) r after.book → after ≡ with_book before after.book →
      FiledAt before serial standing row r after

pub record StruckAt (before : State) (serial : ℕ) (r : Result (Unit {0}) Denial) (after : State) : Type 0 where
  pub by_book : Struck before.book serial r after.book
  pub names : after ≡ with_book before after.book
