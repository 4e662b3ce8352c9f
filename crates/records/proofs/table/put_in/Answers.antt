use Rattle.std.proofs.Common.{◌+◌, Ok, Err, refl, arith}
use Rattle.records.proofs.Searches.{sought_in_use}
use Rattle.records.proofs.Calls.{live_already, none_free, put}
use Rattle.records.proofs.table.put_in.Goals as goal

pub returns-in-Ok : goal.returns-in-Ok
returns-in-Ok c =
    let found = sought_in_use c.args.records.now c.args.size c.args.count.now c.requires c.args.entry.serial (Ok _) c.in-Ok.ensures in
    let done = live_already c.args.records.now c.args.size c.args.count.now _ c.args.entry
    c.requires (λ z. omega arith) found.0 found.1 in
    record { kept = c.requires; answer = (cc); after = done.after; behind = λ k le. refl }

pub returns-then-count-size-clause-answer : goal.returns-then-count-size-clause-answer
returns-then-count-size-clause-answer c =
    let absent = sought_in_use c.args.records.now c.args.size c.args.count.now c.requires c.args.entry.serial (Err c.in-Err.at) c.in-Err.ensures in
    let done = none_free c.args.records.now c.args.size c.args.count.now c.args.entry (λ z. omega arith) absent.1 (omega arith) in
    cc

pub returns-else-count-size : goal.returns-else-count-size
returns-else-count-size c =
    let absent = sought_in_use c.args.records.now c.args.size c.args.count.now c.requires c.args.entry.serial (Err c.in-Err.at) c.in-Err.ensures in
    let shifted = c.shift_in.ensures in
    let done = put c.args.records.now c.shift_in.new.records c.args.size c.args.count.now (c.args.count.now + 1) c.in-Err.at
    c.args.entry c.requires (omega arith) absent.0 absent.1 (omega arith) (omega arith) shifted (omega arith) in
    record {
      kept = done.kept;
      answer = done.files.answer;
      after = done.files.after;
      behind = λ k le. shifted.beyond k (omega arith);
    }
