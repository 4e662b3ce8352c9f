-- Every finite structure is settled.
use Rattle.std.proofs.Common.{◌≡◌, ℕ, zero, suc, ◌<◌, ◌≤◌, Bool, true, false, ◌⊎◌, refl, subst, inl, inr, arith}
use native.Mathlib.Bridge.{le_prop}
use mathlib.Core.HLevel.{Σ_prop_path}
use Rattle.std.proofs.lemmas.Bool.{cases_lt, false≢true}
use Rattle.terms.specs.Written.{Principal, atom, both, quoting, Statement, request, not, and, says, speaks_for}
use Rattle.terms.specs.Truth.{Pair, Holds, Finite, World, structure, FiniteStructuresAreSettled}

decide_true : (b : Bool) → Dec (b ≡ true)
decide_true true = yes refl
decide_true false = no false≢true

decide_not : {A : Type 0} → Dec A → Dec (A → ⊥)
decide_not (yes a) = no (λ f. f a)
decide_not (no f) = yes f

decide_both : {A B : Type 0} → Dec A → Dec B → Dec (A × B)
decide_both (yes a) (yes b) = yes (a, b)
decide_both (yes a) (no f) = no (λ h. f h.1)
decide_both (no f) d = no (λ h. f h.0)

decide_either : {A B : Type 0} → Dec A → Dec B → Dec (A ⊎ B)
decide_either (yes a) d = yes (inl a)
decide_either (no f) (yes b) = yes (inr b)
decide_either (no f) (no g) = no (λ h. elim h [ inl a ↦ f a | inr b ↦ g b ])

decide_implies : {A B : Type 0} → Dec A → Dec B → Dec (A → B)
decide_implies (no f) d = yes (λ a. absurd (f a))
decide_implies (yes a) (yes b) = yes (λ _. b)
decide_implies (yes a) (no g) = no (λ h. g (h a))

module _ (f : Finite) where
  same_world : (w v : World f) → w.0 ≡ v.0 → w ≡ v
  same_world w v p = Σ_prop_path (λ (k : ℕ). le_prop {n = k} {m = f.last}) {u = w} {v = v} p

  -- some world below n, and every world below n
  some_below : (P : World f → Type 0) → ((w : World f) → Dec (P w)) → (n : ℕ) → n ≤ suc f.last → Dec ((w : World f) × ((w.0 < n) × P w))
  some_below P decide zero h = no (λ s. absurd (omega (arith, s.1.0)))
  some_below P decide (suc n) h = step (some_below P decide n (omega arith)) (decide here)
    where
      here : World f
      here = (n, omega arith)

      at_here : (w : World f) → w.0 < suc n → (w.0 < n → ⊥) → w ≡ here
      at_here w below past = same_world w here (elim (cases_lt w.0 n) [ inl lt ↦ absurd (past lt) | inr le ↦ omega arith ])

      step : Dec ((w : World f) × ((w.0 < n) × P w)) → Dec (P here) → Dec ((w : World f) × ((w.0 < suc n) × P w))
      step (yes s) d = yes (s.0, (omega (arith, s.1.0), s.1.1))
      step (no none) (yes p) = yes (here, (omega arith, p))
      step (no none) (no q) = no (λ s. elim (cases_lt s.0.0 n) [
        | inl lt ↦ none (s.0, (lt, s.1.1))
        | inr le ↦ q (subst P (at_here s.0 s.1.0 (λ lt. omega arith)) s.1.1)
      ])

  some_world : (P : World f → Type 0) → ((w : World f) → Dec (P w)) → Dec ((w : World f) × P w)
  some_world P decide = go (some_below P decide (suc f.last) (omega arith))
    where
      go : Dec ((w : World f) × ((w.0 < suc f.last) × P w)) → Dec ((w : World f) × P w)
      go (yes s) = yes (s.0, s.1.1)
      go (no none) = no (λ s. none (s.0, (omega (arith, s.0.1), s.1)))

  every_world : (P : World f → Type 0) → ((w : World f) → Dec (P w)) → Dec ((w : World f) → P w)
  every_world P decide = go (some_world (λ w. P w → ⊥) (λ w. decide_not (decide w)))
    where
      stable : (w : World f) → Dec (P w) → ((P w → ⊥) → ⊥) → P w
      stable w (yes p) h = p
      stable w (no q) h = absurd (h q)

      go : Dec ((w : World f) × (P w → ⊥)) → Dec ((w : World f) → P w)
      go (yes s) = no (λ h. s.1 (h s.0))
      go (no none) = yes (λ w. stable w (decide w) (λ q. none (w, q)))

  pair_settled : (p : Principal) (w v : World f) → Dec (Pair (structure f) p w v)
  pair_settled (atom a) w v = decide_true (f.pairs a w.0 v.0)
  pair_settled (both p q) w v = decide_either (pair_settled p w v) (pair_settled q w v)
  pair_settled (quoting p q) w v = some_world (λ u. Pair (structure f) p w u × Pair (structure f) q u v) (λ u. decide_both (pair_settled p w u) (pair_settled q u v))

  holds_settled : (s : Statement) (w : World f) → Dec (Holds (structure f) s w)
  holds_settled (request r) w = decide_true (f.marks r w.0)
  holds_settled (not s) w = decide_not (holds_settled s w)
  holds_settled (and s t) w = decide_both (holds_settled s w) (holds_settled t w)
  holds_settled (says p s) w = every_world (λ v. Pair (structure f) p w v → Holds (structure f) s v) (λ v. decide_implies (pair_settled p w v) (holds_settled s v))
  holds_settled (speaks_for p q) w =
      every_world (λ v. (u : World f) → Pair (structure f) q v u → Pair (structure f) p v u)
      (λ v. every_world (λ u. Pair (structure f) q v u → Pair (structure f) p v u) (λ u. decide_implies (pair_settled q v u) (pair_settled p v u)))

pub finite_structures_are_settled : FiniteStructuresAreSettled
finite_structures_are_settled f = record { statements = holds_settled f; principals = pair_settled f }
