-- What a proof rests on: the named rows and the live entries of the book.
--
-- Given                        the rows and the live entries by serial
-- StatementIs g n r            the statement row n is r
-- PrincipalIs g n r            the principal row n is r
-- Live g standing serial n     the entry of the serial is live with this standing, and its statement row n is named
use Rattle.std.specs.Prelude.{◌≡◌, ℕ, Some, Option}
use Rattle.std.specs.List.{slice_get}
use Rattle.terms.specs.declared.row.PrincipalRow.{PrincipalRow}
use Rattle.terms.specs.declared.row.StatementRow.{StatementRow}
use Rattle.terms.specs.Written.{Rows}
use Rattle.book.specs.declared.entry.Entry.{Entry}
use Rattle.book.specs.declared.entry.Standing.{Standing}

pub record Given : Type 0 where
  pub rows : Rows
  pub live : ℕ → Option Entry

abbrev pub given : Rows → (ℕ → Option Entry) → Given
given rows live = record { rows = rows; live = live }

abbrev pub StatementIs : Given → ℕ → StatementRow → Type 0
StatementIs g n r = slice_get g.rows.statements n ≡ Some r

abbrev pub PrincipalIs : Given → ℕ → PrincipalRow → Type 0
PrincipalIs g n r = slice_get g.rows.principals n ≡ Some r

pub record Live (g : Given) (standing : Standing) (serial n : ℕ) : Type 0 where
  pub entry : Entry
  pub found : g.live serial ≡ Some entry
  pub stands : entry.standing ≡ standing
  pub row : entry.row ≡ n
  pub named : (r : StatementRow) × StatementIs g n r
