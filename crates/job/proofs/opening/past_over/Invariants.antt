use Rattle.std.proofs.Common.{◌≡◌, length}
use Rattle.job.specs.Books.{behind_over}
use Rattle.job.specs.Words.{words}
use Rattle.job.proofs.opening.past_over.Given as goal

abbrev pub invariant-loop-word : goal.invariant-loop-word
invariant-loop-word l = behind_over (words l.rest) ≡ behind_over (words l.text)

abbrev pub decreases-loop-word : goal.decreases-loop-word
decreases-loop-word l = length (words l.rest)
