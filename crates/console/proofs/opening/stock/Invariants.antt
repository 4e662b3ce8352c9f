use Rattle.std.proofs.Common.{◌≡◌}
use Rattle.job.specs.Books.{held_in}
use Rattle.job.specs.Words.{words}
use Rattle.console.specs.Openings.{stocked, shelf_means}
use Rattle.console.proofs.opening.stock.Given as goal

abbrev pub invariant-loop-entry : goal.invariant-loop-entry
invariant-loop-entry l = stocked (shelf_means l.book) (held_in (words l.entry-iterator.0.now)) ≡ stocked (shelf_means l.initial.book) (held_in (words l.text))
