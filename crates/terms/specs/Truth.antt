-- Kripke structures of any size, and when a statement holds at a world of one.
--
-- Structure W           worlds W, a start, the pairs of each atomic principal, and where each atomic request holds
-- Pair M p w v          the pair (w, v) is among those of the principal p
-- Holds M s w           the statement s holds at the world w
-- Settled M             it is decided for each statement and world whether it holds, and for each principal and two worlds whether the pair is there
-- Finite                a structure with the worlds 0 to `last`, by tables
-- World f               a world of the finite structure f
-- structure f           the finite structure f as a structure
use Rattle.std.specs.Prelude.{◌≡◌, ℕ, zero, ◌≤◌, Bool, true, ◌⊎◌}
use Rattle.std.proofs.Common.{zero-le}
use Rattle.terms.specs.Written.{Principal, atom, both, quoting, Statement, request, not, and, says, speaks_for}

pub record Structure (W : Type 0) : Type 1 where
  pub start : W
  pub pair : ℕ → W → W → Type 0
  pub mark : ℕ → W → Type 0

-- P & Q has the pairs of P and the pairs of Q; P | Q goes by P to some world and on by Q
abbrev pub Pair : {W : Type 0} → Structure W → Principal → W → W → Type 0
Pair M (atom a) w v = M.pair a w v
Pair M (both p q) w v = Pair M p w v ⊎ Pair M q w v
Pair {W} M (quoting p q) w v = (u : W) × (Pair M p w u × Pair M q u v)

-- P says s where s holds at every world that P holds possible; P speaks for Q, at all worlds alike, where every pair of Q is a pair of P
abbrev pub Holds : {W : Type 0} → Structure W → Statement → W → Type 0
Holds M (request r) w = M.mark r w
Holds M (not s) w = Holds M s w → ⊥
Holds M (and s t) w = Holds M s w × Holds M t w
Holds {W} M (says p s) w = (v : W) → Pair M p w v → Holds M s v
Holds {W} M (speaks_for p q) w = (v u : W) → Pair M q v u → Pair M p v u

pub record Settled {W : Type 0} (M : Structure W) : Type 0 where
  pub statements : (s : Statement) (w : W) → Dec (Holds M s w)
  pub principals : (p : Principal) (w v : W) → Dec (Pair M p w v)

pub record Finite : Type 0 where
  pub last : ℕ
  pub pairs : ℕ → ℕ → ℕ → Bool
  pub marks : ℕ → ℕ → Bool

abbrev pub World : Finite → Type 0
World f = (w : ℕ) × (w ≤ f.last)

abbrev pub structure : (f : Finite) → Structure (World f)
structure f =
    record {
      start = (zero, zero-le);
      pair = λ a w v. f.pairs a w.0 v.0 ≡ true;
      mark = λ r w. f.marks r w.0 ≡ true;
    }

abbrev pub FiniteStructuresAreSettled : Type 0
FiniteStructuresAreSettled = (f : Finite) → Settled (structure f)
