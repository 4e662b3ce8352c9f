use Rattle.std.proofs.Common.{◌≡◌, ◌≤◌, length, take, sym, subst, arith}
use Rattle.std.proofs.lemmas.List.{length-take-le}
use Rattle.terms.specs.Named.{rows_of}
use Rattle.terms.specs.Tables.{PartsNamed, principals_needed}
use Rattle.terms.proofs.TableLaws.{every_put}
use Rattle.terms.proofs.Sound.{rows_sound, statement_lawful}
use Rattle.terms.proofs.names.Names.statement.Goals as goal

pub invariant_of-self : goal.invariant_of-self
invariant_of-self c =
    let old = c.args.self.now in
    let ps = old.principals in
    let ss = old.statements in
    let row = c.in_ok-row.row in
    let count : length (take ps.count ps.rows) ≡ ps.count = length-take-le ps.count ps.rows (omega arith) in
    let here : principals_needed row ≤ ps.count = omega (arith, c.in_ok-row.ensures.named) in
    record { named = subst (PartsNamed principals_needed ps.count) (sym c.put.ensures.after) (every_put (λ n r. principals_needed r ≤ ps.count) _ (take ss.count ss.rows) row _ here old.named) }

pub returns-clause-lawful : goal.returns-clause-lawful
returns-clause-lawful c = statement_lawful (rows_of c.args.self.now) (rows_sound c.args.self.now) c.args.form c.args.x c.args.y

pub returns-in_err-row-clause-lawful : goal.returns-in_err-row-clause-lawful
returns-in_err-row-clause-lawful c = statement_lawful (rows_of c.args.self.now) (rows_sound c.args.self.now) c.args.form c.args.x c.args.y
