-- What is proved of walking.
--
-- PassesExactly    a file passes just when it keeps the rules within the limits
-- Sound             what keeps the rules follows from the live rules and sayings
use Rattle.std.specs.Prelude.{◌≡◌, ℕ, ◌≤◌, List, Ok}
use Rattle.terms.specs.Laws.{SoundRows}
use Rattle.rules.specs.Branches.{Progress}
use Rattle.soundness.specs.Given.{Given}
use Rattle.soundness.specs.Walking.{Limits, Within}
use Rattle.soundness.specs.ProofFiles.{walked, Keeps}
use Rattle.soundness.specs.Follows.{Follows}

abbrev pub PassesExactly : Type 0
PassesExactly =
    (lim : Limits) (g : Given) (bytes : List ℕ) (r : ℕ) → 1 ≤ lim.worlds →
    (walked lim g bytes ≡ Ok r → Keeps g (Within lim) lim.lines bytes r) ×
    (Keeps g (Within lim) lim.lines bytes r → walked lim g bytes ≡ Ok r)

abbrev pub Sound : Type 1
Sound =
    (ok : Progress → Type 0) (g : Given) (most : ℕ) (bytes : List ℕ) (r : ℕ) → SoundRows g.rows →
    Keeps g ok most bytes r → Follows g r
