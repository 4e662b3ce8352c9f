-- What naming does, in the subject's words.
--
-- OneMore before after          the table is as it was, or has one more row at its end
-- Stay before after             what rows wrote out to before, they write out to after
-- Apart t                       two rows that write out alike are one row, so comparing row numbers is comparing what is written out
-- Answered form x y ..          an accepted naming answers the number of the row with this form and these operands; a denied one changes nothing; either adds at most one row
-- principal_name t f a b        what naming a principal with form f and operands a and b answers
-- principal_named t f a b       the two tables afterwards
-- statement_name t f a b        what naming a statement answers
-- statement_named t f a b       the two tables afterwards
-- SoundRows t                   what always holds of the two tables
-- LawfulNaming ..               all of this of one naming; besides, naming the same again answers the same number and changes nothing
use Rattle.std.specs.Prelude.{◌≡◌, ℕ, ◌≤◌, ◌⊎◌, List, [], ◌∷◌, ◌++◌, length, Some, Ok, Err, Result}
use Rattle.std.specs.List.{slice_get}
use Rattle.denials.specs.declared.denial.Denial.{Denial}
use Rattle.terms.specs.Naming.{principal_answer, principal_after, statement_answer, statement_after}
use Rattle.terms.specs.Tables.{Distinct, PartsEarlier, PartsNamed, principal_needs, statement_needs, principals_needed}
use Rattle.terms.specs.Written.{Principal, Statement, Rows, principal_written, statement_written}

abbrev pub OneMore : {R : Type 0} → List R → List R → Type 0
OneMore {R} before after = (after ≡ before) ⊎ ((r : R) × (after ≡ before ++ (r ∷ [])))

pub record Stay (before after : Rows) : Type 0 where
  pub principals : (n : ℕ) (p : Principal) → principal_written before n ≡ Some p → principal_written after n ≡ Some p
  pub statements : (n : ℕ) (s : Statement) → statement_written before n ≡ Some s → statement_written after n ≡ Some s

pub record Apart (t : Rows) : Type 0 where
  pub principals : (i j : ℕ) (p : Principal) → principal_written t i ≡ Some p → principal_written t j ≡ Some p → i ≡ j
  pub statements : (i j : ℕ) (s : Statement) → statement_written t i ≡ Some s → statement_written t j ≡ Some s → i ≡ j

pub record Answered {R : Type 0} (form x y : R → ℕ) (before after : List R) (f a b : ℕ) (answer : Result ℕ Denial) : Type 0 where
  pub row : (n : ℕ) → answer ≡ Ok n → (r : R) × ((slice_get after n ≡ Some r) × ((form r ≡ f) × ((x r ≡ a) × (y r ≡ b))))
  pub denied : (d : Denial) → answer ≡ Err d → after ≡ before
  pub one : OneMore before after

-- the tables after naming a principal, and after naming a statement
abbrev pub principal_named : Rows → ℕ → ℕ → ℕ → Rows
principal_named t f a b = record { principals = principal_after t.principals f a b; statements = t.statements }

abbrev pub statement_named : Rows → ℕ → ℕ → ℕ → Rows
statement_named t f a b =
    record { principals = t.principals; statements = statement_after (length t.principals) t.statements f a b }

abbrev pub principal_name : Rows → ℕ → ℕ → ℕ → Result ℕ Denial
principal_name t f a b = principal_answer t.principals f a b

abbrev pub statement_name : Rows → ℕ → ℕ → ℕ → Result ℕ Denial
statement_name t f a b = statement_answer (length t.principals) t.statements f a b

pub record LawfulNaming {R : Type 0} (form x y : R → ℕ) (table : Rows → List R) (answer : Rows → ℕ → ℕ → ℕ → Result ℕ Denial) (named : Rows → ℕ → ℕ → ℕ → Rows) (t : Rows) (f a b : ℕ) : Type 0 where
  pub answered : Answered form x y (table t) (table (named t f a b)) f a b (answer t f a b)
  pub stay : Stay t (named t f a b)
  pub apart : Apart (named t f a b)
  pub again : (n : ℕ) → answer t f a b ≡ Ok n → (answer (named t f a b) f a b ≡ Ok n) × (named (named t f a b) f a b ≡ named t f a b)

-- What always holds of the two tables of a gate.
pub record SoundRows (t : Rows) : Type 0 where
  pub principals_within : length t.principals ≤ 64
  pub statements_within : length t.statements ≤ 256
  pub principals_distinct : Distinct t.principals
  pub statements_distinct : Distinct t.statements
  pub principals_earlier : PartsEarlier principal_needs t.principals
  pub statements_earlier : PartsEarlier statement_needs t.statements
  pub named : PartsNamed principals_needed (length t.principals) t.statements
