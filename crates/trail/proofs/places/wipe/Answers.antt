use Rattle.std.proofs.Common.{rules}
use Rattle.trail.proofs.Filling.{filled}
use Rattle.trail.proofs.places.wipe.Goals as goal

pub returns : goal.returns
returns g c = record { blank = filled _ g.T.Blank.blank _ (λ x q called. search rules) _ _ c.fill_with.ensures.ran.1 }
