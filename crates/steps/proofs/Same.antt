-- Two states of a walk with the same branch and the same forks are the same state.
use Rattle.std.proofs.Common.{◌≡◌}
use mathlib.Core.HLevel.{is_prop→PathP}
use Rattle.soundness.specs.Walking.{ForksFit}
use Rattle.steps.specs.declared.tableau.Tableau.{Tableau}
use Rattle.steps.specs.Tables.{limits_of, forks_of, fits_once}

pub same_tableau : (t u : Tableau) → u.branch ≡ t.branch → u.forks ≡ t.forks → u.complete ≡ t.complete → u ≡ t
same_tableau t u branch forks complete = λ i. record {
  branch = branch i;
  forks = forks i;
  complete = complete i;
  fit = is_prop→PathP (λ j. ForksFit (limits_of (branch j) (forks j)) (forks_of (forks j))) (λ j. fits_once (limits_of (branch j) (forks j)) (forks_of (forks j))) u.fit t.fit i;
}
