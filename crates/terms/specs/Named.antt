-- What the tables of a gate hold.
--
-- rows_in t          the named rows of one table
-- rows_of n          the named rows of both tables
use Rattle.std.specs.Prelude.{List, ℕ, take}
use Rattle.terms.specs.declared.names.Names.{Names}
use Rattle.terms.specs.declared.table.Table.{Table}
use Rattle.terms.specs.Written.{Rows}

abbrev pub rows_in : {R : Type 0} {limit : ℕ} {row : _} {eq : _} → Table R limit row eq → List R
rows_in t = take t.count t.rows

abbrev pub rows_of : Names → Rows
rows_of n = record { principals = rows_in n.principals; statements = rows_in n.statements }
