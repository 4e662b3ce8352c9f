-- What checking a proof file at a gate answers. It changes nothing.
--
-- given_at g                the gate's rows and the live entries of its book, on which a proof rests
-- checking g f l k bytes    the row of the request, if the file keeps the rules; or the first denial; f, l and k are the lengths of the tables of facts, links and forks
use Rattle.std.specs.Prelude.{ℕ, List, Result}
use Rattle.denials.specs.declared.denial.Denial.{Denial}
use Rattle.soundness.specs.Given.{Given, given}
use Rattle.soundness.specs.ProofFiles.{walked}
use Rattle.soundness.specs.Walking.{stated}
use Rattle.gate.specs.State.{State}

abbrev pub given_at : State → Given
given_at g = given g.rows g.book.live

abbrev pub checking : State → ℕ → ℕ → ℕ → List ℕ → Result ℕ Denial
checking g f l k bytes = walked (stated f l k) (given_at g) bytes
