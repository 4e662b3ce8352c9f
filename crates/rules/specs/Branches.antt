-- What a branch of the tableau holds, and what a line does to it.
--
-- fact sign n w            the statement row n is true or false at the world w
-- link sign n w v          the pair (w, v) is, or is not, one of the principal row n
-- blank_fact, blank_link, blank_fork    what stands at an empty place of a trail
-- other sign               the other sign
-- Branch                   the facts and links of a branch in order of arrival, each numbered from 0, and how many worlds it has
-- start r                  the branch at the start of a proof of the statement row r: "r false at 0", world 0 and no link
-- Effect                   what a line does: adds (so many new worlds, facts, links), forks (one alternative goes on, the other is kept), or closes
-- Progress                 how far a proof has come: a branch with its forks, the latest first, or complete
-- fork b side              the fork of a line on the branch b, which keeps `side`
-- back b f                 the branch cut back to the counts of the fork f, with the kept alternative added
-- moved b fs e             what the effect e makes of the branch b with the forks fs
use Rattle.std.specs.Prelude.{ℕ, ◌+◌, List, [], ◌∷◌, ◌++◌, length, take}
use Rattle.rules.specs.declared.branch.Fact.{Fact}
use Rattle.rules.specs.declared.branch.Fork.{Fork}
use Rattle.rules.specs.declared.branch.Link.{Link}
use Rattle.rules.specs.declared.branch.Side.{Side}
use Rattle.rules.specs.declared.branch.Side.TheVariants as sides
use Rattle.rules.specs.declared.branch.Sign.{Sign}
use Rattle.rules.specs.declared.branch.Sign.TheVariants.{True, False}

abbrev pub fact : Sign → ℕ → ℕ → Fact
fact s n w = record { sign = s; row = n; world = w }

abbrev pub link : Sign → ℕ → ℕ → ℕ → Link
link s n w v = record { sign = s; row = n; from = w; to = v }

abbrev pub blank_fact : Fact
blank_fact = fact False 0 0

abbrev pub blank_link : Link
blank_link = link False 0 0 0

abbrev pub blank_fork : Fork
blank_fork = record { facts = 0; links = 0; worlds = 0; kept = sides.Fact blank_fact }

abbrev pub other : Sign → Sign
other True = False
other False = True

pub record Branch : Type 0 where
  pub facts : List Fact
  pub links : List Link
  pub worlds : ℕ

abbrev pub branch : List Fact → List Link → ℕ → Branch
branch fs ls n = record { facts = fs; links = ls; worlds = n }

abbrev pub start : ℕ → Branch
start r = branch (fact False r 0 ∷ []) [] 1

pub data Effect : Type 0 where
  adds : ℕ → List Fact → List Link → Effect
  forks : Side → Side → Effect
  closes : Effect

pub data Progress : Type 0 where
  going : Branch → List Fork → Progress
  complete : Progress

abbrev pub with_side : Branch → Side → Branch
with_side b (sides.Fact f) = branch (b.facts ++ (f ∷ [])) b.links b.worlds
with_side b (sides.Link l) = branch b.facts (b.links ++ (l ∷ [])) b.worlds

abbrev pub fork : Branch → Side → Fork
fork b side = record { facts = length b.facts; links = length b.links; worlds = b.worlds; kept = side }

abbrev pub back : Branch → Fork → Branch
back b f = with_side (branch (take f.facts b.facts) (take f.links b.links) f.worlds) f.kept

abbrev pub closed : Branch → List Fork → Progress
closed b [] = complete
closed b (f ∷ fs) = going (back b f) fs

abbrev pub moved : Branch → List Fork → Effect → Progress
moved b fs (adds n facts links) = going (branch (b.facts ++ facts) (b.links ++ links) (b.worlds + n)) fs
moved b fs (forks goes_on kept) = going (with_side b goes_on) (fork b kept ∷ fs)
moved b fs closes = closed b fs
