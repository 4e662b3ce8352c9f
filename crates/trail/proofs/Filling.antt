-- What stands in a slice that a closure fills with one value.
use Rattle.std.proofs.Common.{◌≡◌, ℕ, zero, suc, List, [], ◌∷◌, get_or, refl, subst}
use Rattle.std.specs.Fn.{Mut, Called}
use Rattle.std.specs.List.{FoldsTo}

pub filled : {F T : Type 0} (g : Mut F (Unit {0}) T) (b : T) (f : F) → ((x : T) (q : F) → Called g f tt x q → (q ≡ f) × (x ≡ b)) → (xs : List T) (q : F) → FoldsTo (λ p x h. Called g p tt x h) f xs q → (k : ℕ) → get_or xs k b ≡ b
filled g b f each [] q runs k = refl
filled g b f each (x ∷ xs) q runs zero = (each x runs.0 runs.1).1
filled g b f each (x ∷ xs) q runs (suc k) =
    filled g b f each xs q (subst (λ p. FoldsTo (λ p x h. Called g p tt x h) p xs q) (each x runs.0 runs.1).0 runs.2) k
