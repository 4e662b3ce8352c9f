use Rattle.book.proofs.Piles.{piles}
use Rattle.book.proofs.laws.piles_hold.Goals as goal

pub returns : goal.returns
returns c = record { piled = piles }
