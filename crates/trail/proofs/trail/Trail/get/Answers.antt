use Rattle.std.proofs.Common.{rules, refl}
use Rattle.trail.proofs.Same.{same_trail}
use Rattle.trail.proofs.trail.Trail.get.Goals as goal

pub returns-clause-unchanged : goal.returns-clause-unchanged
returns-clause-unchanged g c = same_trail g.row.T.coded _ _ (search rules) refl
