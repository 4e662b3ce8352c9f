use Rattle.std.proofs.Common.{rules, tests}
use Rattle.std.proofs.lemmas.Iterator.{YieldsList-from_slice}
use Rattle.std.proofs.lemmas.Iterator.Search.{position_from_yields_List}
use Rattle.terms.specs.Naming.{same}
use Rattle.terms.specs.Named.{rows_in}
use Rattle.terms.proofs.table.Table.position.Goals as goal

pub returns-clause-answer : goal.returns-clause-answer
returns-clause-answer g c =
    let compared = g.met.R.Row.compared in
    position_from_yields_List (same g.R.Row.form g.R.Row.x g.R.Row.y c.args.row) _ _ c.position.result c.position.ensures.ran (YieldsList-from_slice (rows_in c.args.self.now) (cc)) (λ x b q k. search (rules, tests, compared))
