-- Naming: how a form and two operands are read as a row, and what naming a row answers and leaves.
--
-- read_principal known form x y              the principal's row that these numbers stand for, where `known` principals are named; denied 1: unknown form; denied 2: an operand out of range, naming no row, or not 0 where unused
-- read_statement principals known form x y   the same for a statement, where `principals` principals and `known` statements are named
-- same form x y a b                          whether the rows a and b have the same form and operands
-- put_answer limit rows at                   what putting a row into a table answers, where the row stands at `at`: its number, or that of a new last row; denied 3: the row is new and the table full
-- put_after limit rows r at                  the table afterwards
-- answered read f, left read rows f          what naming answers and leaves: a denial of reading leaves the table as it was
-- principal_answer, principal_after          naming a principal
-- statement_answer, statement_after          naming a statement
use Rattle.std.specs.Prelude.{ℕ, Bool, cond, ◌&&◌, List, [], ◌∷◌, ◌++◌, length, Some, None, Ok, Err, Option, Result, ◌==◌, nat_lt}
use Rattle.std.specs.List.{position}
use Rattle.denials.specs.declared.denial.Denial.{Denial}
use Rattle.terms.specs.declared.row.PrincipalRow.{PrincipalRow}
use Rattle.terms.specs.declared.row.PrincipalRow.TheVariants.{Atom, Both, Quoting}
use Rattle.terms.specs.declared.row.StatementRow.{StatementRow}
use Rattle.terms.specs.declared.row.StatementRow.TheVariants.{Request, Not, And, Says, SpeaksFor}
use Rattle.denials.specs.Denials.{denied}
use Rattle.terms.specs.Rows.{principal_form, principal_x, principal_y, statement_form, statement_x, statement_y}

-- the row r if the operands pass the test, else denied 2
abbrev pub with_operands : {R : Type 0} → Bool → R → Result R Denial
with_operands fit r = cond fit (Ok r) (Err (denied 2 0))

abbrev pub read_principal : ℕ → ℕ → ℕ → ℕ → Result PrincipalRow Denial
read_principal known form x y =
    cond (form == 1) (with_operands (nat_lt x 64 && y == 0) (Atom x))
    (cond (form == 2) (with_operands (nat_lt x known && nat_lt y known) (Both x y))
    (cond (form == 3) (with_operands (nat_lt x known && nat_lt y known) (Quoting x y))
    (Err (denied 1 0))))

abbrev pub read_statement : ℕ → ℕ → ℕ → ℕ → ℕ → Result StatementRow Denial
read_statement principals known form x y =
    cond (form == 1) (with_operands (nat_lt x 128 && y == 0) (Request x))
    (cond (form == 2) (with_operands (nat_lt x known && y == 0) (Not x))
    (cond (form == 3) (with_operands (nat_lt x known && nat_lt y known) (And x y))
    (cond (form == 4) (with_operands (nat_lt x principals && nat_lt y known) (Says x y))
    (cond (form == 5) (with_operands (nat_lt x principals && nat_lt y principals) (SpeaksFor x y))
    (Err (denied 1 0))))))

abbrev pub same : {R : Type 0} → (R → ℕ) → (R → ℕ) → (R → ℕ) → R → R → Bool
same form x y a b = form a == form b && (x a == x b && y a == y b)

abbrev pub put_answer : {R : Type 0} → ℕ → List R → Option ℕ → Result ℕ Denial
put_answer limit rows (Some n) = Ok n
put_answer limit rows None = cond (nat_lt (length rows) limit) (Ok (length rows)) (Err (denied 3 0))

abbrev pub put_after : {R : Type 0} → ℕ → List R → R → Option ℕ → List R
put_after limit rows r (Some n) = rows
put_after limit rows r None = cond (nat_lt (length rows) limit) (rows ++ (r ∷ [])) rows

abbrev pub answered : {R : Type 0} → Result R Denial → (R → Result ℕ Denial) → Result ℕ Denial
answered (Ok r) f = f r
answered (Err d) f = Err d

abbrev pub left : {R : Type 0} → Result R Denial → List R → (R → List R) → List R
left (Ok r) rows f = f r
left (Err d) rows f = rows

abbrev pub same_principal : PrincipalRow → PrincipalRow → Bool
same_principal = same principal_form principal_x principal_y

abbrev pub same_statement : StatementRow → StatementRow → Bool
same_statement = same statement_form statement_x statement_y

abbrev pub principal_answer : List PrincipalRow → ℕ → ℕ → ℕ → Result ℕ Denial
principal_answer rows form x y =
    answered (read_principal (length rows) form x y) (λ r. put_answer 64 rows (position (same_principal r) rows))

abbrev pub principal_after : List PrincipalRow → ℕ → ℕ → ℕ → List PrincipalRow
principal_after rows form x y =
    left (read_principal (length rows) form x y) rows (λ r. put_after 64 rows r (position (same_principal r) rows))

abbrev pub statement_answer : ℕ → List StatementRow → ℕ → ℕ → ℕ → Result ℕ Denial
statement_answer principals rows form x y =
    answered (read_statement principals (length rows) form x y) (λ r. put_answer 256 rows (position (same_statement r) rows))

abbrev pub statement_after : ℕ → List StatementRow → ℕ → ℕ → ℕ → List StatementRow
statement_after principals rows form x y =
    left (read_statement principals (length rows) form x y) rows (λ r. put_after 256 rows r (position (same_statement r) rows))
