-- Going from entry to entry gathers all that is live.
use Rattle.std.proofs.Common.{◌≡◌, ℕ, zero, suc, ◌+◌, ◌-◌, ◌<◌, ◌≤◌, [], ◌∷◌, Some, None, Option, sym, refl, ap, ◌∙◌, subst, inl, inr, suc-add, arith}
use Rattle.std.proofs.lemmas.Bool.{cases_lt}
use Rattle.book.specs.declared.entry.Entry.{Entry}
use Rattle.book.specs.Live.{Orderly, Next, Follows, next_after}
use Rattle.book.proofs.Scan.{scan_next}
use Rattle.book.specs.Listings.{gathered, before}

module _ (live : ℕ → Option Entry) where
  -- where nothing is live for a while
  skipped : (k m s : ℕ) → ((t : ℕ) → s ≤ t → t < s + k → live t ≡ None) → gathered live s (k + m) ≡ gathered live (s + k) m
  unfolding gathered
  skipped zero m s dead = ap (gathered live s) (omega arith) ∙ ap (λ n. gathered live n m) (omega arith)
  skipped (suc k) m s dead =
      ap (gathered live s) (suc-add k m) ∙ ap (λ o. before o (gathered live (suc s) (k + m))) (dead s (omega arith) (omega arith)) ∙ skipped k m (suc s) (λ t lo hi. dead t (omega arith) (omega arith)) ∙ ap (λ n. gathered live n m) (omega arith)

  none_left : (n s : ℕ) → ((t : ℕ) → s ≤ t → live t ≡ None) → gathered live s n ≡ []
  unfolding gathered
  none_left zero s dead = refl
  none_left (suc n) s dead = ap (λ o. before o (gathered live (suc s) n)) (dead s (omega arith)) ∙ none_left n (suc s) (λ t lo. dead t (omega arith))

  one_more : (s n : ℕ) (e : Entry) → live s ≡ Some e → gathered live s (suc n) ≡ e ∷ gathered live (suc s) n
  unfolding gathered
  one_more s n e found = ap (λ o. before o (gathered live (suc s) n)) found

  pub gathered_next : Orderly live → (at : ℕ) (e : Entry) → Follows live at e → (gathered live (suc at) (65535 - at) ≡ e ∷ gathered live (suc e.serial) (65535 - e.serial)) × (e.serial ≤ 65535)
  gathered_next orderly at e follows = elim (cases_lt 65535 e.serial) [
    | inl past ↦ (let dead = orderly.ends e.serial past in let found = follows.found in let z : ◌≡◌ {A = ℕ} 0 1 = cc in absurd (omega arith))
    | inr within ↦ (
      (let above = follows.above in
          let k = e.serial - suc at in
          let m = 65535 - e.serial in
          ap (gathered live (suc at)) (omega arith) ∙ skipped k (suc m) (suc at) (λ t lo hi. follows.between t lo (omega arith)) ∙ ap (λ n. gathered live n (suc m)) (omega arith) ∙ one_more e.serial m e follows.found),
      within,
    )
  ]

  pub gathered_none : (at : ℕ) → ((t : ℕ) → at < t → live t ≡ None) → gathered live (suc at) (65535 - at) ≡ []
  gathered_none at dead = none_left (65535 - at) (suc at) (λ t lo. dead t lo)

  pub next_follows : Orderly live → (at : ℕ) (e : Entry) → Some e ≡ next_after live at → Follows live at e
  next_follows orderly at e found = subst (Next live at) (sym found) (scan_next live orderly at)

  pub next_none : Orderly live → (at : ℕ) → None ≡ next_after live at → (t : ℕ) → at < t → live t ≡ None
  next_none orderly at found = subst (Next live at) (sym found) (scan_next live orderly at)
