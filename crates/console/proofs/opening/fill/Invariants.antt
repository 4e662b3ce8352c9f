use Rattle.std.proofs.Common.{◌≡◌, []}
use Rattle.book.specs.Sheet.{sheet_list}
use Rattle.job.specs.Books.{listed}
use Rattle.job.specs.Words.{words}
use Rattle.console.specs.Openings.{filled}
use Rattle.console.proofs.opening.fill.Given as goal

abbrev pub invariant-loop-serial : goal.invariant-loop-serial
invariant-loop-serial l = filled (sheet_list l.sheet) (listed (words l.serial-iterator.0.now)) ≡ filled [] (listed (words l.text))
