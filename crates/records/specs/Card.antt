-- shown e s                the entry e, if it bears serial s
-- card_live xs s           the live entry of s in a card book with the records xs: record s - 1, if it bears s
-- card_barred s            a card book bars the serials above 256
-- live_count live n        how many of the serials 1 to n are live
-- card_free xs             its free places: 256 less its live entries
-- CardSound xs             each of the 256 records bears the serial of its place or is blank
use Rattle.std.specs.Prelude.{◌≡◌, ℕ, zero, suc, ◌+◌, ◌-◌, ◌<◌, Bool, cond, List, length, is_some, Some, None, Option, ◌==◌, ◌≢◌, nat_lt, slice_index_or, refl}
use Rattle.std.proofs.Common.{ap, ◌∙◌, ⊎_elim, arith}
use Rattle.std.proofs.lemmas.List.{get_or_past}
use Rattle.std.proofs.lemmas.Bool.{eq-eqb, ne_eqb, cases_eq, cond-true, cond-false}
use Rattle.book.specs.declared.entry.Entry.{Entry}
use Rattle.book.specs.Live.{Orderly, blank}
use Rattle.records.specs.Records.{serial_at}
use Rattle.book.specs.Single.{some_none, some_same}

abbrev pub shown : Entry → ℕ → Option Entry
shown e s = cond (e.serial == s) (Some e) None

abbrev pub card_live : List Entry → ℕ → Option Entry
card_live xs s = cond (s == 0) None (shown (slice_index_or xs (s - 1) blank) s)

abbrev pub card_barred : ℕ → Bool
card_barred s = nat_lt 256 s

unfoldable pub live_count : (ℕ → Option Entry) → ℕ → ℕ
live_count live zero = 0
live_count live (suc n) = cond (is_some (live (suc n))) 1 0 + live_count live n

abbrev pub card_free : List Entry → ℕ
card_free xs = 256 - live_count (card_live xs) 256

pub record CardSound (xs : List Entry) : Type 0 where
  pub places : length xs ≡ 256
  pub own : (k : ℕ) → k < 256 → (serial_at xs k ≢ suc k) → slice_index_or xs k blank ≡ blank

module _ (xs : List Entry) where
  pub card_shown : (s : ℕ) → (s ≢ 0) → serial_at xs (s - 1) ≡ s → card_live xs s ≡ Some (slice_index_or xs (s - 1) blank)
  card_shown s numbered bears =
      cond-false _ _ _ (ne_eqb s 0 numbered) ∙ cond-true _ _ _ (eq-eqb (serial_at xs (s - 1)) s bears)

  pub card_hidden : (s : ℕ) → (serial_at xs (s - 1) ≢ s) → card_live xs s ≡ None
  card_hidden s other =
      ⊎_elim
      (λ (z : s ≡ 0). cond-true _ _ _ (eq-eqb s 0 z))
      (λ (numbered : s ≡ 0 → ⊥).
      cond-false _ _ _ (ne_eqb s 0 numbered) ∙ cond-false _ _ _ (ne_eqb (serial_at xs (s - 1)) s other))
      (cases_eq s 0)

  pub card_above : CardSound xs → (s : ℕ) → 256 < s → card_live xs s ≡ None
  card_above sound s past =
      card_hidden s (λ bears. omega (arith, ap (λ e. e.serial) (get_or_past xs (s - 1) blank (omega (arith, sound.places)))))

  -- a card book's `orderly` cites it
  pub card_orderly : CardSound xs → Orderly (card_live xs)
  card_orderly sound = record {
    zero_free = refl;
    ends = λ s past. card_above sound s (omega arith);
    bears = λ s e found.
        ⊎_elim
        (λ (bears : serial_at xs (s - 1) ≡ s).
        ⊎_elim
        (λ (z : s ≡ 0). absurd (some_none (card_live xs s) e found (cond-true _ _ _ (eq-eqb s 0 z))))
        (λ (numbered : s ≡ 0 → ⊥).
        ap (λ x. x.serial) (some_same (card_live xs s) e (slice_index_or xs (s - 1) blank) found (card_shown s numbered bears)) ∙ bears)
        (cases_eq s 0))
        (λ other. absurd (some_none (card_live xs s) e found (card_hidden s other)))
        (cases_eq (serial_at xs (s - 1)) s);
  }
