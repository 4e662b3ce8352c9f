-- Principals and statements written out down to atomic numbers, and what a table's rows write out to.
--
-- Principal, Statement            written-out principals and statements
-- write_out of earlier rows       the terms that rows write out to, one after another, behind those of `earlier`; `of` writes one row out, given the terms of the rows before it
-- principals_written rows         what a table of principals writes out to, by row number
-- statements_written ps rows      what a table of statements writes out to, above the written-out principals ps
-- Rows                            the two tables of a gate
-- principal_written t n, statement_written t n    what the row n writes out to, if it is named
use Rattle.std.specs.Prelude.{ℕ, List, [], ◌∷◌, ◌++◌, Option, slice_index_or}
use Rattle.std.specs.List.{slice_get}
use Rattle.terms.specs.declared.row.PrincipalRow.{PrincipalRow}
use Rattle.terms.specs.declared.row.PrincipalRow.TheVariants.{Atom, Both, Quoting}
use Rattle.terms.specs.declared.row.StatementRow.{StatementRow}
use Rattle.terms.specs.declared.row.StatementRow.TheVariants.{Request, Not, And, Says, SpeaksFor}

pub data Principal : Type 0 where
  atom : ℕ → Principal
  both : Principal → Principal → Principal
  quoting : Principal → Principal → Principal

pub data Statement : Type 0 where
  request : ℕ → Statement
  not : Statement → Statement
  and : Statement → Statement → Statement
  says : Principal → Statement → Statement
  speaks_for : Principal → Principal → Statement

abbrev pub principal_at : List Principal → ℕ → Principal
principal_at ps n = slice_index_or ps n (atom 0)

abbrev pub statement_at : List Statement → ℕ → Statement
statement_at ss n = slice_index_or ss n (request 0)

-- one row, given what the rows before it write out to
abbrev pub principal_of : List Principal → PrincipalRow → Principal
principal_of earlier (Atom x) = atom x
principal_of earlier (Both x y) = both (principal_at earlier x) (principal_at earlier y)
principal_of earlier (Quoting x y) = quoting (principal_at earlier x) (principal_at earlier y)

abbrev pub statement_of : List Principal → List Statement → StatementRow → Statement
statement_of ps earlier (Request x) = request x
statement_of ps earlier (Not s) = not (statement_at earlier s)
statement_of ps earlier (And s t) = and (statement_at earlier s) (statement_at earlier t)
statement_of ps earlier (Says p s) = says (principal_at ps p) (statement_at earlier s)
statement_of ps earlier (SpeaksFor p q) = speaks_for (principal_at ps p) (principal_at ps q)

abbrev pub write_out : {R X : Type 0} → (List X → R → X) → List X → List R → List X
write_out of earlier [] = earlier
write_out of earlier (r ∷ rs) = write_out of (earlier ++ (of earlier r ∷ [])) rs

abbrev pub principals_written : List PrincipalRow → List Principal
principals_written rows = write_out principal_of [] rows

abbrev pub statements_written : List Principal → List StatementRow → List Statement
statements_written ps rows = write_out (statement_of ps) [] rows

pub record Rows : Type 0 where
  pub principals : List PrincipalRow
  pub statements : List StatementRow

abbrev pub principal_written : Rows → ℕ → Option Principal
principal_written t n = slice_get (principals_written t.principals) n

abbrev pub statement_written : Rows → ℕ → Option Statement
statement_written t n = slice_get (statements_written (principals_written t.principals) t.statements) n
