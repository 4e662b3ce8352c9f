-- What an answer of the walk means: the file keeps the rules, and what it asks for follows.
use Rattle.std.proofs.Common.{◌≡◌, ℕ, ◌≤◌, List, Result, sym, ◌∙◌}
use Rattle.denials.specs.declared.denial.Denial.{Denial}
use Rattle.terms.specs.Laws.{SoundRows}
use Rattle.soundness.specs.Given.{Given}
use Rattle.soundness.specs.Walking.{Limits, Within}
use Rattle.soundness.specs.ProofFiles.{walked}
use Rattle.soundness.proofs.Exactness.{passes_exactly}
use Rattle.soundness.proofs.Soundness.{sound}
use Rattle.tableau.specs.Passing.{Exactly, Grounded}

module _ (lim : Limits) (g : Given) (bytes : List ℕ) (answer : Result ℕ Denial) (some_world : 1 ≤ lim.worlds) (is : answer ≡ walked lim g bytes) where
  pub exactly_so : Exactly lim g bytes answer
  exactly_so r =
      let exact = passes_exactly lim g bytes r some_world in
      (λ passes. exact.0 (sym is ∙ passes), λ keeps. is ∙ exact.1 keeps)

  pub grounded : SoundRows g.rows → Grounded g answer
  grounded rows r passes = sound (Within lim) g lim.lines bytes r rows ((exactly_so r).0 passes)
