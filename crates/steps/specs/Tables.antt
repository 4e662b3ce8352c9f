-- The three tables of a walk, and what they hold.
--
-- SameBranch b c        the branches b and c are lent the same slices
-- SideRoom b side       the branch b has room for one alternative of a fork
-- KeptRoom b f side     the branch b, cut back to the counts of the fork f, has room for it
-- limits_of b k         the limits of a walk with the tables of the branch b and the forks k
-- forks_of k            the forks, the latest first
-- fits_once lim fs      that each fork has its place can be so in one way only
use Rattle.std.specs.Prelude.{◌<◌, List, [], ◌∷◌, reverse, length}
use Rattle.std.specs.Coded.{le_prop, ×_prop, Unit-prop}
use Rattle.trail.specs.declared.blank.Blank.{Ghosts}
use Rattle.trail.specs.declared.trail.Trail.{Trail}
use Rattle.trail.specs.Trails.{SamePlaces, entries_of, capacity_of}
use Rattle.rules.specs.declared.branch.Fork.{Fork}
use Rattle.rules.specs.declared.branch.Side.{Side}
use Rattle.rules.specs.declared.branch.Side.TheVariants as sides
use Rattle.soundness.specs.Walking.{Limits, SideFits, ForkFits, ForksFit}
use Rattle.citing.specs.declared.branch.OpenBranch.{OpenBranch}

pub record SameBranch (b c : OpenBranch) : Type 0 where
  pub facts : SamePlaces b.facts.places c.facts.places
  pub links : SamePlaces b.links.places c.links.places

abbrev pub SideRoom : OpenBranch → Side → Type 0
SideRoom b (sides.Fact x) = length (entries_of b.facts) < capacity_of b.facts
SideRoom b (sides.Link x) = length (entries_of b.links) < capacity_of b.links

abbrev pub KeptRoom : OpenBranch → Fork → Side → Type 0
KeptRoom b f (sides.Fact x) = f.facts < capacity_of b.facts
KeptRoom b f (sides.Link x) = f.links < capacity_of b.links

abbrev pub limits_of : {g : Ghosts Fork} → OpenBranch → Trail Fork g → Limits
limits_of b k =
    record { facts = capacity_of b.facts; links = capacity_of b.links; forks = capacity_of k; worlds = 1024; lines = 8000 }

abbrev pub forks_of : {g : Ghosts Fork} → Trail Fork g → List Fork
forks_of k = reverse (entries_of k)

side_once : (lim : Limits) (f : Fork) (side : Side) → IsProp (SideFits lim f side)
side_once lim f (sides.Fact x) = le_prop
side_once lim f (sides.Link x) = le_prop

fork_once : (lim : Limits) (f : Fork) → IsProp (ForkFits lim f)
fork_once lim f p q = λ i. record { side = side_once lim f f.kept p.side q.side i; worlds = le_prop p.worlds q.worlds i }

pub fits_once : (lim : Limits) (fs : List Fork) → IsProp (ForksFit lim fs)
fits_once lim [] = Unit-prop
fits_once lim (f ∷ fs) = ×_prop (fork_once lim f) (fits_once lim fs)
