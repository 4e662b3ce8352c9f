use Rattle.terms.proofs.Settling.{finite_structures_are_settled}
use Rattle.terms.proofs.structures.finite_structures_are_settled.Goals as goal

pub returns : goal.returns
returns c = record { settled = finite_structures_are_settled }
