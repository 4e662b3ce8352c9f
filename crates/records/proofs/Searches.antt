-- What the library's searches find among records in rising order, and among those in use. Assumes nothing.
use Rattle.std.proofs.Common.{◌≡◌, ℕ, zero, suc, ◌+◌, ◌<◌, ◌≤◌, true, false, leb, List, length, take, Ok, Err, Result, sym, refl, ap, ◌∙◌, ⊎_elim, arith}
use mathlib.Core.Path.{fun_ext}
use Rattle.std.specs.List.Sorted.{IsSearchInRange, IsBinarySearchResult, IsNonDecreasingBy, IsPartitionPoint}
use Rattle.std.specs.Ordering.{nat_cmp, ordering_index}
use Rattle.std.proofs.lemmas.Cmp.{ranked}
use Rattle.std.proofs.lemmas.Bool.{cases_lt}
use Rattle.std.proofs.lemmas.Bool.Decides.{nat_tests}
use Rattle.std.proofs.lemmas.List.{get_or-take, length-take-le}
use Rattle.std.proofs.lemmas.List.Sorted.{IsNonDecreasingBy-from_default}
use Rattle.book.specs.declared.entry.Entry.{Entry}
use Rattle.book.specs.Live.{blank}
use Rattle.records.specs.Records.{serial_at, held, Rising, Kept, Placed, Sought}

module _ (xs : List Entry) (rising : Rising xs (length xs)) where
  rises : (i j : ℕ) → i ≤ j → j < length xs → serial_at xs i ≤ serial_at xs j
  rises i j le hi = grind (arith, rising i j, λ (same : i ≡ j). ap (serial_at xs) same)

  pub serials_rise : IsNonDecreasingBy (λ e. e.serial) xs
  serials_rise = IsNonDecreasingBy-from_default (λ e. e.serial) xs blank rises

  comparisons_rise : (s : ℕ) → IsNonDecreasingBy (λ e. ordering_index (nat_cmp e.serial s)) xs
  comparisons_rise s =
      IsNonDecreasingBy-from_default (λ e. ordering_index (nat_cmp e.serial s)) xs blank
      (λ i j le hi. let up = rises i j le hi in grind (arith, nat_tests))

  pub searched :
      (s : ℕ) (r : Result ℕ ℕ) → IsSearchInRange r (length xs) → IsBinarySearchResult (λ e. nat_cmp e.serial s) xs r →
      Sought xs (length xs) s r
  searched s (Ok at) lt equal = (lt, ranked _ s _ (sym (equal blank)))
  searched s (Err at) le parted =
      let below : (k : ℕ) → k < at → serial_at xs k < s =
      λ k lt. ranked _ s _ (sym ((parted (comparisons_rise s)).0 k blank (omega arith) lt)) in
      let above : (k : ℕ) → at ≤ k → k < length xs → s < serial_at xs k =
      λ k lo hi. ranked _ s _ (sym ((parted (comparisons_rise s)).1 k blank lo hi)) in (
        record { within = le; before = below; onward = λ k lo hi. omega (arith, above k lo hi) },
        λ k hi same. ⊎_elim (λ (lt : k < at). omega (arith, below k lt)) (λ (lo : at ≤ k). omega (arith, above k lo hi)) (cases_lt k at),
      )

-- the first record above a serial
pub parted_placed :
    (xs : List Entry) (s at : ℕ) → at ≤ length xs →
    IsPartitionPoint (λ e. leb e.serial s ≡ true) (λ e. leb e.serial s ≡ false) xs at → Placed xs (length xs) (s + 1) at
parted_placed xs s at within parted = record {
  within = within;
  before = λ k lt. let low = parted.0 k blank (omega arith) lt in grind (arith, nat_tests);
  onward = λ k lo hi. let high = parted.1 k blank lo hi in grind (arith, nat_tests);
}

-- the records in use are the first n
module _ (xs : List Entry) (size n : ℕ) (kept : Kept xs size n) where
  in_use_count : length (take n xs) ≡ n
  in_use_count = length-take-le n xs (omega (arith, kept.fits, kept.within))

  in_use : (k : ℕ) → k < n → serial_at (take n xs) k ≡ serial_at xs k
  in_use k lt = ap (λ e. e.serial) (get_or-take n xs k blank lt)

  pub sought_in_use : (s : ℕ) (r : Result ℕ ℕ) → Sought (take n xs) (length (take n xs)) s r → Sought xs n s r
  sought_in_use s (Ok at) found = let lt : at < n = omega (arith, in_use_count, found.0) in (lt, sym (in_use at lt) ∙ found.1)
  sought_in_use s (Err at) absent =
      let within : at ≤ n = omega (arith, in_use_count, absent.0.within) in (
        record {
          within = within;
          before = λ k lt. omega (arith, in_use k (omega arith), absent.0.before k lt);
          onward = λ k lo hi. omega (arith, in_use k hi, absent.0.onward k lo (omega (arith, in_use_count)));
        },
        λ k lt same. absent.1 k (omega (arith, in_use_count)) (in_use k lt ∙ same),
      )

  held_to : (m s : ℕ) → m ≤ n → held (take n xs) m s ≡ held xs m s
  held_to zero s le = refl
  held_to (suc m) s le =
      let same = get_or-take n xs m blank le in
      let later = held_to m s (omega arith) in
      cc

  pub held_in_use : held (take n xs) (length (take n xs)) ≡ held xs n
  held_in_use = ap (held (take n xs)) in_use_count ∙ fun_ext (λ s. held_to n s (omega arith))
