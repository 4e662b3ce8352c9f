-- A head is read just where the file begins with one.
use Rattle.std.proofs.Common.{arith}
use Rattle.std.proofs.lemmas.Bool.Decides.{nat_tests}
use Rattle.files.specs.Heads.{HeadExactly}

pub head_exactly : HeadExactly
head_exactly kinds bytes h = grind (arith, nat_tests)
