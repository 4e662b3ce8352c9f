-- What a proof file's answer means.
--
-- Exactly lim g bytes answer    the answer is a row just where the file keeps the rules with that request within the limits
-- Grounded g answer             the row that is answered follows from the live rules and sayings
use Rattle.std.specs.Prelude.{◌≡◌, ℕ, List, Ok, Result}
use Rattle.denials.specs.declared.denial.Denial.{Denial}
use Rattle.soundness.specs.Given.{Given}
use Rattle.soundness.specs.Walking.{Limits, Within}
use Rattle.soundness.specs.ProofFiles.{Keeps}
use Rattle.soundness.specs.Follows.{Follows}

abbrev pub Exactly : Limits → Given → List ℕ → Result ℕ Denial → Type 0
Exactly lim g bytes answer =
    (r : ℕ) →
    (answer ≡ Ok r → Keeps g (Within lim) lim.lines bytes r) ×
    (Keeps g (Within lim) lim.lines bytes r → answer ≡ Ok r)

abbrev pub Grounded : Given → Result ℕ Denial → Type 0
Grounded g answer = (r : ℕ) → answer ≡ Ok r → Follows g r
