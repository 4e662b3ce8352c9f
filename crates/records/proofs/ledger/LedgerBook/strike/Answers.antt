use Rattle.std.proofs.Common.{◌≡◌, arith}
use Rattle.book.specs.Meaning.{strike_after}
use Rattle.records.specs.Records.{kept_means}
use Rattle.records.specs.Ledger.{ledger_size}
use Rattle.records.proofs.Calls.{resized}
use Rattle.records.proofs.ledger.LedgerBook.strike.Goals as goal

pub returns-clause-after : goal.returns-clause-after
returns-clause-after c =
    let xs = c.args.self.now.records.now in
    let ys = c.take_out.new.records in
    let before = c.size-size.ensures in
    let after : c.size-size.result ≡ ledger_size ys = omega (arith, before, c.take_out.auto.records) in
    resized (λ t u. kept_means ys u c.take_out.new.count ≡ strike_after (kept_means xs t c.args.self.now.count) c.args.serial)
    c.size-size.result (ledger_size xs) (ledger_size ys) before after c.take_out.ensures.after
