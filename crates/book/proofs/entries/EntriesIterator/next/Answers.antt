use Rattle.std.proofs.Common.{length, sym, ap, subst, rules}
use Rattle.std.specs.Iterator.{YieldsFirst}
use Rattle.book.specs.Going.{entries_left}
use Rattle.book.proofs.Gathering.{gathered_next, gathered_none, next_follows, next_none}
use Rattle.book.proofs.entries.EntriesIterator.next.Goals as goal

pub returns-in_err-entry-clause-steps : goal.returns-in_err-entry-clause-steps
returns-in_err-entry-clause-steps g c =
    let it = c.args.self.now in
    let live = g.R.Register.live it.book.now in
    let none = gathered_none live it.after (next_none live (g.met.R.Register.orderly it.book.now) it.after c.in_err-entry.ensures.answer) in
    subst (λ r. YieldsFirst (entries_left g.R.Register.live) it r it) (sym c.from_residual.ensures) (none, none)

pub returns : goal.returns
returns g c =
    let it = c.args.self.now in
    let live = g.R.Register.live it.book.now in
    let orderly = g.met.R.Register.orderly it.book.now in
    let entry = c.in_ok-entry.entry in
    let first = (gathered_next live orderly it.after entry (next_follows live orderly it.after entry c.in_ok-entry.ensures.answer)).0 in
    let fewer = ap length first in
    record { steps = first; goes = search rules }
