use Rattle.std.proofs.Common.{length, sym}
use Rattle.records.specs.Orderly.{held_none}
use Rattle.records.proofs.Held.{held_some}
use Rattle.records.proofs.table.look_up.Goals as goal

pub returns-in-Ok : goal.returns-in-Ok
returns-in-Ok c =
    let xs = c.args.in_use.now in
    let found = c.in-Ok.ensures in
    sym (held_some xs (length xs) c.args.serial c.in-Ok.at c.requires.rising found.0 found.1)

pub returns-in-Err : goal.returns-in-Err
returns-in-Err c = sym (held_none c.args.in_use.now (length c.args.in_use.now) c.args.serial c.in-Err.ensures.1)
