use Rattle.std.proofs.Common.{◌≡◌, subst}
use Rattle.book.specs.Live.{next_after}
use Rattle.records.proofs.Searches.{held_in_use}
use Rattle.records.proofs.owned.OwnedLedgerRegister.next_after.Goals as goal

pub returns : goal.returns
returns c =
    let book = c.args.self.now in
    record { answer = subst (λ live. c.next_up.result ≡ next_after live c.args.serial) (held_in_use book.records book.size book.count book.sound.kept) c.next_up.ensures }
