use Rattle.soundness.proofs.Layouts.{same_bytes}
use Rattle.soundness.proofs.laws.layout_is_unique.Goals as goal

pub returns : goal.returns
returns c = record { unique = same_bytes }
