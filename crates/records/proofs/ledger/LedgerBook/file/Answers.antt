use Rattle.std.proofs.Common.{◌≡◌, arith}
use Rattle.book.specs.Meaning.{file_after}
use Rattle.records.specs.Records.{kept_means}
use Rattle.records.specs.Ledger.{ledger_size}
use Rattle.records.proofs.Calls.{resized}
use Rattle.records.proofs.ledger.LedgerBook.file.Goals as goal

pub returns-clause-after : goal.returns-clause-after
returns-clause-after c =
    let xs = c.args.self.now.records.now in
    let ys = c.put_in.new.records in
    let before = c.size-size.ensures in
    let after : c.size-size.result ≡ ledger_size ys = omega (arith, before, c.put_in.auto.records) in
    resized (λ t u. kept_means ys u c.put_in.new.count ≡ file_after (kept_means xs t c.args.self.now.count) c.args.entry)
    c.size-size.result (ledger_size xs) (ledger_size ys) before after c.put_in.ensures.after
