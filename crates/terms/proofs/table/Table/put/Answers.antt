use Rattle.std.proofs.Common.{◌≡◌, ◌≤◌, take, None, sym, subst, arith}
use Rattle.std.proofs.lemmas.List.{take_more_set}
use Rattle.std.specs.List.{position}
use Rattle.terms.specs.Naming.{same}
use Rattle.terms.specs.Tables.{Distinct, PartsEarlier}
use Rattle.terms.proofs.TableLaws.{distinct_new, every_push}
use Rattle.terms.proofs.table.Table.put.Goals as goal

pub invariant_of-self-clause-distinct : goal.invariant_of-self-clause-distinct
invariant_of-self-clause-distinct g c =
    let old = c.args.self.now in
    let rows = take old.count old.rows in
    let none : position (same g.R.Row.form g.R.Row.x g.R.Row.y c.args.row) rows ≡ None = cc in
    subst Distinct (sym (take_more_set old.rows old.count c.args.row (omega arith))) (distinct_new g.R.Row.form g.R.Row.x g.R.Row.y rows c.args.row none old.distinct)

pub invariant_of-self-clause-earlier : goal.invariant_of-self-clause-earlier
invariant_of-self-clause-earlier g c =
    let old = c.args.self.now in
    let needs = g.R.Row.needs in
    subst (PartsEarlier needs) (sym (take_more_set old.rows old.count c.args.row (omega arith))) (every_push (λ n r. needs r ≤ n) (take old.count old.rows) c.args.row old.earlier c.requires)
