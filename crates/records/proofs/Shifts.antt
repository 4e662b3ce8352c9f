-- What a shift of rising records leaves live. Assumes nothing.
use Rattle.std.proofs.Common.{◌≡◌, ℕ, suc, ◌-◌, ◌<◌, ◌≤◌, List, get_or, Some, sym, refl, ap, ◌∙◌, subst, ⊎_elim, arith}
use mathlib.Core.Path.{fun_ext}
use Rattle.std.proofs.lemmas.Bool.{cases_eq, cases_lt, cases_order}
use Rattle.book.specs.declared.entry.Entry.{Entry}
use Rattle.book.specs.Live.{blank}
use Rattle.book.specs.Meaning.{with_entry, without}
use Rattle.records.specs.Records.{serial_at, held, Rising, Kept, Placed, ShiftedIn, ShiftedOut}
use Rattle.book.proofs.Exact.{with_here, with_other, without_here, without_other}
use Rattle.records.specs.Orderly.{held_none}
use Rattle.records.proofs.Held.{borne, unborne, bearer, one_bearer, held_some}

abbrev serial_of : Entry → ℕ
serial_of e = e.serial

module _
    (xs ys : List Entry) (size n at : ℕ) (e : Entry) (kept : Kept xs size n) (room : n < size)
    (placed : Placed xs n e.serial at) (new : (k : ℕ) → k < n → serial_at xs k ≡ e.serial → ⊥)
    (numbered : 0 < e.serial) (fits : e.serial ≤ 65535) (done : ShiftedIn xs n at e ys)
  where
    below : (k : ℕ) → k < at → serial_at ys k ≡ serial_at xs k
    below k lt = ap serial_of (done.below k lt)

    here : (k : ℕ) → k ≡ at → serial_at ys k ≡ e.serial
    here k same = ap (serial_at ys) same ∙ ap serial_of done.here

    from_below : (k : ℕ) → at < k → k < suc n → get_or ys k blank ≡ get_or xs (k - 1) blank
    from_below k gt lt = ap (λ j. get_or ys j blank) (omega arith) ∙ done.moved (k - 1) (omega arith) (omega arith)

    above : (k : ℕ) → at < k → k < suc n → serial_at ys k ≡ serial_at xs (k - 1)
    above k gt lt = ap serial_of (from_below k gt lt)

    -- each record of ys is one of xs, or the new one
    each :
        (P : ℕ → Type 0) → ((k : ℕ) → k < n → P (serial_at xs k)) → P e.serial →
        (k : ℕ) → k < suc n → P (serial_at ys k)
    each P old fresh k lt =
        ⊎_elim
        (λ (same : k ≡ at). subst P (sym (here k same)) fresh)
        (⊎_elim
        (λ (lo : k < at). subst P (sym (below k lo)) (old k (omega (arith, placed.within))))
        (λ (hi : at < k). subst P (sym (above k hi lt)) (old (k - 1) (omega arith))))
        (cases_order k at)

    pub in_rising : Rising ys (suc n)
    in_rising i j lt hi =
        grind (arith, below i, below j, here i, here j, above i, above j, placed.within, placed.before i, placed.onward (j - 1), new (j - 1), kept.rising i j, kept.rising i (j - 1), kept.rising (i - 1) (j - 1))

    pub in_kept : Kept ys size (suc n)
    in_kept = record {
      fits = room;
      within = omega (arith, done.size, kept.within);
      rising = in_rising;
      low = each (λ s. 0 < s) kept.low numbered;
      high = each (λ s. s ≤ 65535) kept.high fits;
      rest = λ k le lt. done.beyond k le ∙ kept.rest k (omega arith) lt;
    }

    other_held : (s : ℕ) → (s ≡ e.serial → ⊥) → held ys (suc n) s ≡ held xs n s
    other_held s other =
        elim (bearer xs n s) [
          | borne k lt is found ↦
              ⊎_elim
              (λ (lo : k < at).
              held_some ys (suc n) s k in_rising (omega arith) (below k lo ∙ is) ∙ ap Some (done.below k lo) ∙ sym found)
              (λ (hi : at ≤ k).
              held_some ys (suc n) s (suc k) in_rising (omega arith) (ap serial_of (done.moved k hi lt) ∙ is) ∙
              ap Some (done.moved k hi lt) ∙ sym found)
              (cases_lt k at)
          | unborne none absent ↦
              held_none ys (suc n) s (λ k lt. each (λ t. t ≡ s → ⊥) none (λ q. other (sym q)) k lt) ∙ sym absent
        ]

    pub in_held : held ys (suc n) ≡ with_entry (held xs n) e
    in_held = fun_ext (λ s.
        ⊎_elim
        (λ (same : s ≡ e.serial).
        held_some ys (suc n) s at in_rising (omega (arith, placed.within)) (here at refl ∙ sym same) ∙
        ap Some done.here ∙ sym (with_here (held xs n) e s same))
        (λ other. other_held s other ∙ sym (with_other (held xs n) e s other))
        (cases_eq s e.serial))

module _
    (xs ys : List Entry) (size m at : ℕ) (kept : Kept xs size (suc m)) (place : at < suc m)
    (done : ShiftedOut xs (suc m) at ys)
  where
    out_below : (k : ℕ) → k < at → serial_at ys k ≡ serial_at xs k
    out_below k lt = ap serial_of (done.below k lt)

    out_above : (k : ℕ) → at ≤ k → k < m → serial_at ys k ≡ serial_at xs (suc k)
    out_above k le lt = ap serial_of (done.moved k le (omega arith))

    out_each :
        (P : ℕ → Type 0) → ((k : ℕ) → k < suc m → (k ≡ at → ⊥) → P (serial_at xs k)) → (k : ℕ) → k < m → P (serial_at ys k)
    out_each P old k lt =
        ⊎_elim
        (λ (lo : k < at). subst P (sym (out_below k lo)) (old k (omega arith) (λ q. omega arith)))
        (λ (hi : at ≤ k). subst P (sym (out_above k hi lt)) (old (suc k) (omega arith) (λ q. omega arith)))
        (cases_lt k at)

    pub out_rising : Rising ys m
    out_rising i j lt hi =
        grind (arith, out_below i, out_below j, out_above i, out_above j, kept.rising i j, kept.rising i (suc j), kept.rising (suc i) (suc j))

    pub out_kept : Kept ys size m
    out_kept = record {
      fits = omega (arith, kept.fits);
      within = omega (arith, done.size, kept.within);
      rising = out_rising;
      low = out_each (λ s. 0 < s) (λ k lt ne. kept.low k lt);
      high = out_each (λ s. s ≤ 65535) (λ k lt ne. kept.high k lt);
      rest = λ k le lt.
          ⊎_elim
          (λ (same : k ≡ m). done.last k (omega arith))
          (λ ne. done.beyond k (omega arith) ∙ kept.rest k (omega arith) lt)
          (cases_eq k m);
    }

    gone : (k : ℕ) → k < m → serial_at ys k ≡ serial_at xs at → ⊥
    gone = out_each (λ s. s ≡ serial_at xs at → ⊥) (λ k lt ne same. ne (one_bearer xs (suc m) k at kept.rising lt place same))

    out_other : (s : ℕ) → (s ≡ serial_at xs at → ⊥) → held ys m s ≡ held xs (suc m) s
    out_other s other =
        elim (bearer xs (suc m) s) [
          | borne k lt is found ↦
              ⊎_elim
              (λ (same : k ≡ at). absurd (other (sym is ∙ ap (serial_at xs) same)))
              (⊎_elim
              (λ (lo : k < at).
              held_some ys m s k out_rising (omega arith) (out_below k lo ∙ is) ∙ ap Some (done.below k lo) ∙ sym found)
              (λ (hi : at < k).
              let moved : get_or ys (k - 1) blank ≡ get_or xs k blank =
              done.moved (k - 1) (omega arith) (omega arith) ∙ ap (λ j. get_or xs j blank) (omega arith) in
              held_some ys m s (k - 1) out_rising (omega arith) (ap serial_of moved ∙ is) ∙ ap Some moved ∙ sym found))
              (cases_order k at)
          | unborne none absent ↦
              held_none ys m s (out_each (λ t. t ≡ s → ⊥) (λ k lt ne. none k lt)) ∙ sym absent
        ]

    pub out_held : held ys m ≡ without (held xs (suc m)) (serial_at xs at)
    out_held = fun_ext (λ s.
        ⊎_elim
        (λ (same : s ≡ serial_at xs at).
        held_none ys m s (λ k lt is. gone k lt (is ∙ same)) ∙ sym (without_here (held xs (suc m)) (serial_at xs at) s same))
        (λ other. out_other s other ∙ sym (without_other (held xs (suc m)) (serial_at xs at) s other))
        (cases_eq s (serial_at xs at)))
