use Rattle.std.proofs.Common.{◌≡◌, subst}
use Rattle.book.specs.Live.{next_after}
use Rattle.records.specs.Ledger.{ledger_size}
use Rattle.records.proofs.Searches.{held_in_use}
use Rattle.records.proofs.ledger.LedgerRegister.next_after.Goals as goal

pub returns : goal.returns
returns c =
    let book = c.args.self.now in
    record { answer = subst (λ live. c.next_up.result ≡ next_after live c.args.serial) (held_in_use book.records.now (ledger_size book.records.now) book.count book.sound) c.next_up.ensures }
