-- What always holds of the two tables of rows.
--
-- Distinct rows                 no row stands twice
-- principal_needs r             how many principals have to be named before the row r: one more than its highest part
-- statement_needs r             how many statements have to be named before the row r
-- principals_needed r           how many principals have to be named before the statement's row r
-- Every P rows                  P holds of each row with its number
-- PartsEarlier needs rows       each part of a row stands before it in the same table
-- PartsNamed needs count rows   each part of a row stands among the first `count` rows of the other table
use Rattle.std.specs.Prelude.{◌≡◌, ℕ, suc, ◌<◌, ◌≤◌, max, List, length, Some}
use Rattle.std.specs.List.{slice_get}
use Rattle.terms.specs.declared.row.PrincipalRow.{PrincipalRow}
use Rattle.terms.specs.declared.row.PrincipalRow.TheVariants.{Atom, Both, Quoting}
use Rattle.terms.specs.declared.row.StatementRow.{StatementRow}
use Rattle.terms.specs.declared.row.StatementRow.TheVariants.{Request, Not, And, Says, SpeaksFor}

abbrev pub Distinct : {R : Type 0} → List R → Type 0
Distinct rows = (i j : ℕ) → (i < length rows) × (slice_get rows i ≡ slice_get rows j) → i ≡ j

abbrev pub principal_needs : PrincipalRow → ℕ
principal_needs (Atom x) = 0
principal_needs (Both x y) = max (suc x) (suc y)
principal_needs (Quoting x y) = max (suc x) (suc y)

abbrev pub statement_needs : StatementRow → ℕ
statement_needs (Request x) = 0
statement_needs (Not s) = suc s
statement_needs (And s t) = max (suc s) (suc t)
statement_needs (Says p s) = suc s
statement_needs (SpeaksFor p q) = 0

abbrev pub principals_needed : StatementRow → ℕ
principals_needed (Request x) = 0
principals_needed (Not s) = 0
principals_needed (And s t) = 0
principals_needed (Says p s) = suc p
principals_needed (SpeaksFor p q) = max (suc p) (suc q)

abbrev pub Every : {R : Type 0} → (ℕ → R → Type 0) → List R → Type 0
Every {R} P rows = (n : ℕ) (r : R) → slice_get rows n ≡ Some r → P n r

abbrev pub PartsEarlier : {R : Type 0} → (R → ℕ) → List R → Type 0
PartsEarlier needs rows = Every (λ n r. needs r ≤ n) rows

abbrev pub PartsNamed : {R : Type 0} → (R → ℕ) → ℕ → List R → Type 0
PartsNamed needs count rows = Every (λ n r. needs r ≤ count) rows
