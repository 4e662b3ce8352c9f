use Rattle.soundness.proofs.Exactness.{passes_exactly}
use Rattle.soundness.proofs.laws.passing_is_exact.Goals as goal

pub returns : goal.returns
returns c = record { exact = passes_exactly }
