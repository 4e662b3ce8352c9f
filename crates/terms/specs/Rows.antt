-- Rows of the two tables, by form and operands.
--
-- principal_form r, principal_x r, principal_y r    the form and the operands of a principal's row; an unused operand is 0
-- statement_form r, statement_x r, statement_y r    the same of a statement's row
-- Determined form x y                               rows with the same form and operands are the same row
use Rattle.std.specs.Prelude.{◌≡◌, ℕ}
use Rattle.std.proofs.Common.{rules}
use Rattle.terms.specs.declared.row.PrincipalRow.{PrincipalRow}
use Rattle.terms.specs.declared.row.PrincipalRow.TheVariants.{Atom, Both, Quoting}
use Rattle.terms.specs.declared.row.StatementRow.{StatementRow}
use Rattle.terms.specs.declared.row.StatementRow.TheVariants.{Request, Not, And, Says, SpeaksFor}

abbrev pub Determined : {R : Type 0} → (R → ℕ) → (R → ℕ) → (R → ℕ) → Type 0
Determined {R} form x y = (a b : R) → form a ≡ form b → x a ≡ x b → y a ≡ y b → a ≡ b

abbrev pub principal_form : PrincipalRow → ℕ
principal_form (Atom x) = 1
principal_form (Both x y) = 2
principal_form (Quoting x y) = 3

abbrev pub principal_x : PrincipalRow → ℕ
principal_x (Atom x) = x
principal_x (Both x y) = x
principal_x (Quoting x y) = x

abbrev pub principal_y : PrincipalRow → ℕ
principal_y (Atom x) = 0
principal_y (Both x y) = y
principal_y (Quoting x y) = y

abbrev pub statement_form : StatementRow → ℕ
statement_form (Request x) = 1
statement_form (Not x) = 2
statement_form (And x y) = 3
statement_form (Says x y) = 4
statement_form (SpeaksFor x y) = 5

abbrev pub statement_x : StatementRow → ℕ
statement_x (Request x) = x
statement_x (Not x) = x
statement_x (And x y) = x
statement_x (Says x y) = x
statement_x (SpeaksFor x y) = x

abbrev pub statement_y : StatementRow → ℕ
statement_y (Request x) = 0
statement_y (Not x) = 0
statement_y (And x y) = y
statement_y (Says x y) = y
statement_y (SpeaksFor x y) = y

pub principal_determined : Determined principal_form principal_x principal_y
principal_determined a b = search rules

pub statement_determined : Determined statement_form statement_x statement_y
statement_determined a b = search rules
