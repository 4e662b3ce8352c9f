use Rattle.std.proofs.Common.{arith}
use Rattle.std.proofs.lemmas.List.{length-replicate}
use Rattle.book.specs.Live.{blank}
use Rattle.records.proofs.Calls.{blank_kept}
use Rattle.records.proofs.owned.OwnedLedger.new.Goals as goal

pub invariant_of-result : goal.invariant_of-result
invariant_of-result c = record { sound = record { places = length-replicate 1024 blank; kept = blank_kept c.min.result (omega arith) } }
