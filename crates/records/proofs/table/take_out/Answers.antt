use Rattle.std.proofs.Common.{◌-◌, is_some, Ok, Err, refl, ap, arith}
use Rattle.records.specs.Records.{kept_means}
use Rattle.book.proofs.Outcomes.{strikes_not}
use Rattle.records.specs.Orderly.{held_none}
use Rattle.records.proofs.Searches.{sought_in_use}
use Rattle.records.proofs.Calls.{out}
use Rattle.records.proofs.table.take_out.Goals as goal

pub returns-in-Ok : goal.returns-in-Ok
returns-in-Ok c =
    let found = sought_in_use c.args.records.now c.args.size c.args.count.now c.requires c.args.serial (Ok c.in-Ok.at) c.in-Ok.ensures in
    let shifted = c.shift_out.ensures in
    let done = out c.args.records.now c.shift_out.new.records c.args.size c.args.count.now (c.args.count.now - 1) c.in-Ok.at
    c.args.serial c.requires found.0 found.1 shifted (omega arith) in
    record {
      kept = done.kept;
      answer = done.strikes.answer;
      after = done.strikes.after;
      behind = λ k le. shifted.beyond k (omega (arith, c.requires.fits));
    }

pub returns-in-Err : goal.returns-in-Err
returns-in-Err c =
    let m = kept_means c.args.records.now c.args.size c.args.count.now in
    let absent = sought_in_use c.args.records.now c.args.size c.args.count.now c.requires c.args.serial (Err c.in-Err.field-0) c.in-Err.ensures in
    let dead = held_none c.args.records.now c.args.count.now c.args.serial absent.1 in
    let done = strikes_not m c.args.serial _ m (ap is_some dead) refl refl in
    record { kept = c.requires; answer = (cc); after = done.after; behind = λ k le. refl }
