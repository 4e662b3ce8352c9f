-- That the upward scan finds the next live entry, and that there is only one. Assumes nothing.
use Rattle.std.proofs.Common.{◌≡◌, ℕ, zero, suc, ◌+◌, ◌-◌, ◌<◌, ◌≤◌, Some, None, Option, sym, refl, ap, ◌∙◌, subst, ⊎_elim, arith}
use Rattle.std.proofs.lemmas.Bool.{cases_order, cases_eq}
use Rattle.book.specs.declared.entry.Entry.{Entry}
use Rattle.book.specs.Live.{Orderly, Next, first_from, or_else, next_after}
use Rattle.book.specs.Laws.{NextExact}
use Rattle.book.specs.Single.{some_none, some_same}

-- Next, counted from the serial itself
record First (live : ℕ → Option Entry) (s : ℕ) (e : Entry) : Type 0 where
  above : s ≤ e.serial
  found : live e.serial ≡ Some e
  between : (t : ℕ) → s ≤ t → t < e.serial → live t ≡ None

abbrev From : (ℕ → Option Entry) → ℕ → Option Entry → Type 0
From live s None = (t : ℕ) → s ≤ t → live t ≡ None
From live s (Some e) = First live s e

module _ (live : ℕ → Option Entry) (orderly : Orderly live) where
  step_on : (s : ℕ) → live s ≡ None → (r : Option Entry) → From live (suc s) r → From live s r
  step_on s dead None later =
      λ t le. ⊎_elim (λ (e : t ≡ s). ap live e ∙ dead) (λ ne. later t (omega arith)) (cases_eq t s)
  step_on s dead (Some e) later = record {
    above = omega (arith, later.above);
    found = later.found;
    between = λ t le lt. ⊎_elim (λ (q : t ≡ s). ap live q ∙ dead) (λ ne. later.between t (omega arith) lt) (cases_eq t s);
  }

  here : (s : ℕ) (e : Entry) → live s ≡ Some e → First live s e
  here s e at =
      let same : e.serial ≡ s = orderly.bears s e at in
      record {
        above = omega arith;
        found = ap live same ∙ at;
        between = λ t le lt. absurd (omega arith);
      }

  choose :
      (s : ℕ) (o r : Option Entry) → live s ≡ o → From live (suc s) r → From live s (or_else o r)
  choose s None r at later = step_on s at r later
  choose s (Some e) r at later = here s e at

  from_scan : (n s : ℕ) → 65535 < s + n → From live s (first_from live s n)
  from_scan zero s past = λ t le. orderly.ends t (omega arith)
  from_scan (suc n) s past = choose s (live s) (first_from live (suc s) n) refl (from_scan n (suc s) (omega arith))

  next_from : (s : ℕ) (r : Option Entry) → From live (suc s) r → Next live s r
  next_from s None h = λ t lt. h t lt
  next_from s (Some e) h = record { above = h.above; found = h.found; between = λ t lo hi. h.between t lo hi }

  pub scan_next : (s : ℕ) → Next live s (next_after live s)
  scan_next s = next_from s (next_after live s) (from_scan (65535 - s) (suc s) (omega arith))

  pub next_unique : (s : ℕ) (p q : Option Entry) → Next live s p → Next live s q → p ≡ q
  next_unique s None None a b = refl
  next_unique s None (Some e) a b = absurd (some_none (live e.serial) e b.found (a e.serial b.above))
  next_unique s (Some e) None a b = absurd (some_none (live e.serial) e a.found (b e.serial a.above))
  next_unique s (Some d) (Some e) a b =
      ⊎_elim
      (λ (same : d.serial ≡ e.serial). ap Some (some_same (live d.serial) d e a.found (ap live same ∙ b.found)))
      (⊎_elim
      (λ (lt : d.serial < e.serial). absurd (some_none (live d.serial) d a.found (b.between d.serial a.above lt)))
      (λ (lt : e.serial < d.serial). absurd (some_none (live e.serial) e b.found (a.between e.serial b.above lt))))
      (cases_order d.serial e.serial)

  pub next_is : (s : ℕ) (r : Option Entry) → Next live s r → r ≡ next_after live s
  next_is s r h = next_unique s r (next_after live s) h (scan_next s)

pub next_exact : NextExact
next_exact live orderly s r =
    (next_is live orderly s r, λ e. subst (Next live s) (sym e) (scan_next live orderly s))
