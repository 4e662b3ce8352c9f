-- The n-th element of a list, as an option.
use Rattle.std.proofs.Common.{◌≡◌, ℕ, zero, suc, ◌<◌, ◌⊎◌, List, [], ◌∷◌, ◌++◌, length, Some, refl, ap, inl, inr, arith}
use Rattle.std.specs.List.{slice_get}

module _ {X : Type 0} where
  pub nth_some : (xs : List X) (i : ℕ) → i < length xs → (x : X) × (slice_get xs i ≡ Some x)
  nth_some [] i h = absurd (omega arith)
  nth_some (y ∷ ys) zero h = (y, refl)
  nth_some (y ∷ ys) (suc i) h = nth_some ys i (omega arith)

  pub nth_append_left : (xs ys : List X) (i : ℕ) → i < length xs → slice_get (xs ++ ys) i ≡ slice_get xs i
  nth_append_left [] ys i h = absurd (omega arith)
  nth_append_left (x ∷ xs) ys zero h = refl
  nth_append_left (x ∷ xs) ys (suc i) h = nth_append_left xs ys i (omega arith)

  pub nth_last : (xs : List X) (y : X) → slice_get (xs ++ (y ∷ [])) (length xs) ≡ Some y
  nth_last [] y = refl
  nth_last (x ∷ xs) y = nth_last xs y

  -- an element of a list with one more is an old one or the last
  pub nth_push : (xs : List X) (y : X) (i : ℕ) (x : X) → slice_get (xs ++ (y ∷ [])) i ≡ Some x → (slice_get xs i ≡ Some x) ⊎ ((i ≡ length xs) × (x ≡ y))
  nth_push [] y zero x e = inr (refl, cc)
  nth_push [] y (suc i) x e = cc
  nth_push (z ∷ xs) y zero x e = inl e
  nth_push (z ∷ xs) y (suc i) x e =
      elim (nth_push xs y i x e) [ inl h ↦ inl h | inr h ↦ inr (ap suc h.0, h.1) ]
