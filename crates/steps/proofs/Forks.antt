-- The latest fork, and the place for the alternative that it keeps.
use Rattle.std.proofs.Common.{◌≡◌, ℕ, ◌+◌, ◌-◌, List, [], ◌∷◌, ◌++◌, reverse, length, get_or, take, Some, None, Option, sym, refl, ap, ◌∙◌, arith, MatchOption}
use Rattle.std.specs.List.{slice_get}
use Rattle.std.proofs.lemmas.List.{reverse-append, take_more, take_all}
use Rattle.std.proofs.lemmas.Option.{slice_get-get_or, slice_get_within}

pub latest_of : {X : Type 0} (xs : List X) (n : ℕ) (o : Option X) → n ≡ length xs - 1 → o ≡ slice_get xs n → MatchOption o ((reverse xs ≡ []) × (reverse (take n xs) ≡ [])) (λ x. reverse xs ≡ x ∷ reverse (take n xs))
latest_of [] n None last found = (refl, ap reverse (take_all n [] (omega arith)))
latest_of (x ∷ xs) n None last found =
    let here = slice_get-get_or (x ∷ xs) n x (omega arith) in
    let z : ◌≡◌ {A = ℕ} 0 1 = cc in
    absurd (omega arith)
latest_of xs n (Some y) last found =
    let below = slice_get_within xs n y (sym found) in
    let here = slice_get-get_or xs n y below in
    let is : get_or xs n y ≡ y = cc in
    let whole : xs ≡ take n xs ++ (y ∷ []) = sym (take_all (n + 1) xs (omega arith)) ∙ take_more xs n y below ∙ ap (λ z. take n xs ++ (z ∷ [])) is in
    ap reverse whole ∙ reverse-append (take n xs) (y ∷ [])
