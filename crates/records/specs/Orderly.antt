-- kept_orderly xs size n kept   what records in rising order hold is orderly, which a ledger's `orderly` cites
-- in_use_orderly xs in_use       the same of records that are all in use
-- held_none xs n s none         a serial that none of the first n records bears is not held
-- held_bears xs n s e found     an entry held under a serial bears it
use Rattle.std.specs.Prelude.{◌≡◌, ℕ, zero, suc, ◌<◌, ◌≤◌, List, length, Some, None, ◌≢◌, slice_index_or, refl}
use Rattle.std.proofs.Common.{sym, ap, ◌∙◌, ⊎_elim, arith}
use Rattle.std.proofs.lemmas.Bool.{eq-eqb, ne_eqb, cases_eq, cond-true, cond-false}
use Rattle.book.specs.declared.entry.Entry.{Entry}
use Rattle.book.specs.Live.{blank, Orderly}
use Rattle.book.specs.Single.{some_none, some_same}
use Rattle.records.specs.Records.{serial_at, held, Kept, InUse}

module _ (xs : List Entry) where
  pub held_none : (n s : ℕ) → ((k : ℕ) → k < n → serial_at xs k ≢ s) → held xs n s ≡ None
  held_none zero s none = refl
  held_none (suc n) s none =
      cond-false _ _ _ (ne_eqb (serial_at xs n) s (none n (omega arith))) ∙ held_none n s (λ k lt. none k (omega arith))

  pub held_bears : (n s : ℕ) (e : Entry) → held xs n s ≡ Some e → e.serial ≡ s
  held_bears zero s e found = absurd (some_none (held xs zero s) e found refl)
  held_bears (suc n) s e found =
      ⊎_elim
      (λ (same : serial_at xs n ≡ s).
      let here : held xs (suc n) s ≡ Some (slice_index_or xs n blank) = cond-true _ _ _ (eq-eqb (serial_at xs n) s same) in
      ap (λ x. x.serial) (some_same (held xs (suc n) s) e (slice_index_or xs n blank) found here) ∙ same)
      (λ other. held_bears n s e (sym (cond-false _ _ _ (ne_eqb (serial_at xs n) s other)) ∙ found))
      (cases_eq (serial_at xs n) s)

orderly_of : (xs : List Entry) (n : ℕ) → ((k : ℕ) → k < n → 0 < serial_at xs k) → ((k : ℕ) → k < n → serial_at xs k ≤ 65535) → Orderly (held xs n)
orderly_of xs n low high = record {
  zero_free = held_none xs n 0 (λ k lt at. omega (arith, low k lt));
  ends = λ s past. held_none xs n s (λ k lt at. omega (arith, high k lt));
  bears = held_bears xs n;
}

pub kept_orderly : (xs : List Entry) (size n : ℕ) → Kept xs size n → Orderly (held xs n)
kept_orderly xs size n kept = orderly_of xs n kept.low kept.high

pub in_use_orderly : (xs : List Entry) → InUse xs → Orderly (held xs (length xs))
in_use_orderly xs in_use = orderly_of xs (length xs) in_use.low in_use.high
