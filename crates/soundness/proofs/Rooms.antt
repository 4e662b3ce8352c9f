-- What the walk holds stays within the limits just where the lines find their places.
use Rattle.std.proofs.Common.{◌≡◌, ℕ, ◌≤◌, true, List, [], ◌∷◌, take, arith}
use Rattle.std.proofs.lemmas.List.{length-append, length_push, length-take}
use Rattle.std.proofs.lemmas.Bool.Decides.{nat_tests}
use Rattle.rules.specs.declared.branch.Fact.{Fact}
use Rattle.rules.specs.declared.branch.Fork.{Fork}
use Rattle.rules.specs.declared.branch.Link.{Link}
use Rattle.rules.specs.declared.moves.Move.{Move}
use Rattle.rules.specs.declared.moves.Move.TheVariants.{ForkFacts, ForkLinks, Close}
use Rattle.rules.specs.declared.branch.Side.{Side}
use Rattle.rules.specs.declared.branch.Side.TheVariants as sides
use Rattle.rules.specs.declared.table.Places.{Places}
use Rattle.rules.specs.Branches.{Branch, branch, with_side, closed, Effect, adds, forks, closes, Progress, moved}
use Rattle.rules.specs.Fits.{effect}
use Rattle.soundness.specs.Walking.{Limits, Held, Within, SideFits, ForksFit, Roomy, sizes, Room, roomy}

-- the test for free places, part by part
pub room_parts : (lim : Limits) (b : Branch) (fs : List Fork) (p : Places) → roomy lim b fs p ≡ true → Room lim b fs p
room_parts lim b fs p e =
    record { facts = grind (arith, nat_tests); links = grind (arith, nat_tests); worlds = grind (arith, nat_tests); forks = grind (arith, nat_tests) }

pub room_from : (lim : Limits) (b : Branch) (fs : List Fork) (p : Places) → Room lim b fs p → roomy lim b fs p ≡ true
room_from lim b fs p r = grind (arith, nat_tests, r.facts, r.links, r.worlds, r.forks)

-- the branch cut back, with the kept alternative
back_within : (lim : Limits) (b : Branch) (f : Fork) (rest : List Fork) (kept : Side) → Held lim b (f ∷ rest) → SideFits lim f kept → f.worlds ≤ lim.worlds → Held lim (with_side (branch (take f.facts b.facts) (take f.links b.links) f.worlds) kept) rest
back_within lim b f rest (sides.Fact x) held side worlds =
    record {
      facts = omega (arith, length-take f.facts b.facts, length_push (take f.facts b.facts) x);
      links = omega (arith, length-take f.links b.links);
      forks = omega arith;
      worlds = worlds;
    }
back_within lim b f rest (sides.Link x) held side worlds =
    record {
      facts = omega (arith, length-take f.facts b.facts);
      links = omega (arith, length-take f.links b.links, length_push (take f.links b.links) x);
      forks = omega arith;
      worlds = worlds;
    }

abbrev Fine : Limits → Progress → Type 0
Fine lim p = Within lim p × Roomy lim p

closed_fine : (lim : Limits) (b : Branch) (fs : List Fork) → Held lim b fs → ForksFit lim fs → Fine lim (closed b fs)
closed_fine lim b [] held fit = (tt, tt)
closed_fine lim b (f ∷ fs) held fit = (back_within lim b f fs f.kept held fit.0.side fit.0.worlds, fit.1)

module _ (lim : Limits) (b : Branch) (fs : List Fork) (held : Held lim b fs) where
  -- with room for what a line adds, the walk is within the limits after it
  added : (n : ℕ) (facts : List Fact) (links : List Link) → ForksFit lim fs → Room lim b fs (sizes (adds n facts links)) → Fine lim (moved b fs (adds n facts links))
  added n facts links fit room = (
    record {
      facts = omega (arith, length-append b.facts facts);
      links = omega (arith, length-append b.links links);
      forks = held.forks;
      worlds = room.worlds;
    },
    fit,
  )

  pub fine_after : (m : Move) → ForksFit lim fs → Room lim b fs (sizes (effect m)) → Fine lim (moved b fs (effect m))
  fine_after (ForkFacts f h) fit room = (
    record { facts = omega (arith, length_push b.facts f); links = held.links; forks = omega arith; worlds = held.worlds },
    (record { side = omega arith; worlds = held.worlds }, fit),
  )
  fine_after (ForkLinks l k) fit room = (
    record { facts = held.facts; links = omega (arith, length_push b.links l); forks = omega arith; worlds = held.worlds },
    (record { side = omega arith; worlds = held.worlds }, fit),
  )
  fine_after Close fit room = closed_fine lim b fs held fit
  fine_after _ fit room = added _ _ _ fit room

  -- and where it is within the limits after the line, there was room
  pub room_before : (e : Effect) → Within lim (moved b fs e) → Room lim b fs (sizes e)
  room_before (adds n facts links) after =
      record { facts = omega (arith, length-append b.facts facts); links = omega (arith, length-append b.links links); forks = omega arith; worlds = omega arith }
  room_before (forks (sides.Fact f) kept) after =
      record { facts = omega (arith, length_push b.facts f); links = omega arith; forks = omega arith; worlds = omega arith }
  room_before (forks (sides.Link l) kept) after =
      record { facts = omega arith; links = omega (arith, length_push b.links l); forks = omega arith; worlds = omega arith }
  room_before closes after =
      record { facts = omega arith; links = omega arith; forks = omega arith; worlds = omega arith }
