use Rattle.soundness.proofs.Misreadings.{one_is_not_both, not_turned_round, at_the_start_only, closed_is_gone}
use Rattle.soundness.proofs.laws.misreadings_stay_out.Goals as goal

pub returns : goal.returns
returns c =
    record { one = one_is_not_both; turned = not_turned_round; start = at_the_start_only; closed = closed_is_gone }
