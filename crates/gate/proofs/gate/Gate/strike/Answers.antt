use Rattle.std.proofs.Common.{ap}
use Rattle.gate.specs.State.{with_book, state_of}
use Rattle.gate.proofs.AtGate.{striking_strikes}
use Rattle.gate.proofs.gate.Gate.strike.Goals as goal

pub returns-clause-struck : goal.returns-clause-struck
returns-clause-struck g c =
    let before = state_of g.B.Register.live g.B.Book.barred g.B.Book.free c.args.self.now in
    striking_strikes before c.args.serial _ _ c.strike.ensures.answer (ap (with_book before) c.strike.ensures.after)
