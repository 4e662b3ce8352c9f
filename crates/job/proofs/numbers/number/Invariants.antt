use Rattle.std.proofs.Common.{◌≡◌, ◌≤◌, drop}
use Rattle.job.proofs.Values.{spell}
use Rattle.job.proofs.numbers.number.Given as goal

abbrev pub invariant-loop-c : goal.invariant-loop-c
invariant-loop-c l = (l.value ≤ l.limit) × (spell l.limit l.value (drop l.c-index l.text) ≡ spell l.limit 0 l.text)
