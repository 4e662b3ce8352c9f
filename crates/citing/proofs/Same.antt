-- Two open branches with the same trails and as many worlds are the same branch.
use Rattle.std.proofs.Common.{◌≡◌, ◌≤◌}
use Rattle.std.specs.Coded.{le_prop}
use mathlib.Core.HLevel.{is_prop→PathP}
use Rattle.citing.specs.declared.branch.OpenBranch.{OpenBranch}

pub same_branch : (o p : OpenBranch) → p.facts ≡ o.facts → p.links ≡ o.links → p.worlds ≡ o.worlds → p ≡ o
same_branch o p facts links worlds = λ i. record {
  facts = facts i;
  links = links i;
  worlds = worlds i;
  few = is_prop→PathP (λ j. worlds j ≤ 1024) (λ j. le_prop) p.few o.few i;
}
