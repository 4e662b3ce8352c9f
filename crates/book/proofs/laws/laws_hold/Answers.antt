use Rattle.book.proofs.Scan.{next_exact}
use Rattle.book.proofs.Exact.{filing_exact, striking_exact, taken_back}
use Rattle.book.proofs.laws.laws_hold.Goals as goal

pub returns : goal.returns
returns c = record { next = next_exact; filing = filing_exact; striking = striking_exact; back = taken_back }
