-- What one record of a card book's own, written or blanked, leaves live, and how many places it takes. Assumes nothing.
use Rattle.std.proofs.Common.{◌≡◌, ℕ, zero, suc, ◌+◌, ◌-◌, ◌<◌, ◌≤◌, Bool, true, cond, not, eqb, List, length, get_or, take, set, replicate, is_some, Some, None, Ok, Err, count_by, Option, Bor, MatchOption, drop, sym, refl, ap, ◌∙◌, subst, ⊎_elim, add-one, arith}
use Rattle.std.specs.List.{AllWithin, HoldsAt}
use Rattle.std.specs.Option.{option_copied}
use Rattle.std.proofs.lemmas.List.{take_all, get_or-drop, length-drop, get_or-set_same, get_or-set_other, length-set, length-replicate, get_or-replicate}
use Rattle.std.proofs.lemmas.List.Sums.{sum_by-cons, sum_by-set, sum_by_more, count_by-le-length}
use Rattle.std.proofs.lemmas.Bool.{eq-eqb, ne_eqb, lt-ltb, le-ltb, cases_eq, cases_lt, cond-true, both_ways}
use Rattle.denials.specs.Denials.{denied}
use Rattle.book.specs.declared.entry.Entry.{Entry}
use Rattle.book.specs.Live.{next_after, blank}
use Rattle.book.specs.Meaning.{Meaning, means, empty_book, with_entry, without}
use Rattle.records.specs.Records.{serial_at}
use Rattle.records.specs.Card.{shown, card_live, card_barred, card_free, live_count, CardSound, card_shown, card_hidden, card_above, card_orderly}
use Rattle.book.proofs.Scan.{next_is}
use Rattle.book.proofs.Outcomes.{Files, files_not, files_so, number_barred, number_live, number_free, Strikes, strikes_so}
use Rattle.book.proofs.Exact.{same_meaning, with_here, with_other, without_here, without_other}

abbrev pub card_means : List Entry → Meaning
card_means xs = means (card_live xs) card_barred (card_free xs)

-- whether a record is in use
abbrev taken : Entry → Bool
taken e = not (eqb e.serial 0)

-- how many places a record takes
abbrev weight : Entry → ℕ
weight e = cond (taken e) 1 0

abbrev pub Used : Entry → Type 0
Used e = e.serial ≡ 0 → ⊥

abbrev pub Unused : Entry → Type 0
Unused e = e.serial ≡ 0

abbrev weight_of : Bool → ℕ
weight_of b = cond (not b) 1 0

used_one : (e : Entry) → (e.serial ≡ 0 → ⊥) → weight e ≡ 1
used_one e used = ap weight_of (ne_eqb e.serial 0 used)

free_one : (e : Entry) → e.serial ≡ 0 → weight e ≡ 0
free_one e free = ap weight_of (eq-eqb e.serial 0 free)

-- ---- the live entries are the records in use

abbrev shows : Option Entry → ℕ
shows o = cond (is_some o) 1 0

module _ (xs : List Entry) (sound : CardSound xs) where
  shows_one : (n : ℕ) → n < 256 → shows (card_live xs (suc n)) ≡ weight (get_or xs n blank)
  shows_one n lt =
      let place : suc n - 1 ≡ n = omega arith in
      ⊎_elim
      (λ (own : serial_at xs n ≡ suc n).
      ap shows (card_shown xs (suc n) (λ z. omega arith) (ap (serial_at xs) place ∙ own)) ∙
      sym (used_one (get_or xs n blank) (λ z. omega arith)))
      (λ (other : serial_at xs n ≡ suc n → ⊥).
      let free : serial_at xs n ≡ 0 = ap (λ e. e.serial) (sound.own n lt other) in
      ap shows (card_hidden xs (suc n) (λ bears. omega (arith, ap (serial_at xs) place))) ∙
      sym (free_one (get_or xs n blank) free))
      (cases_eq (serial_at xs n) (suc n))

  live_first : (n : ℕ) → n ≤ 256 → live_count (card_live xs) n ≡ count_by taken (take n xs)
  unfolding live_count
  live_first zero le = refl
  live_first (suc n) le =
      let more = sum_by_more weight xs n blank (omega (arith, sound.places)) in
      let next : count_by taken (take (suc n) xs) ≡ count_by taken (take (n + 1) xs) =
      ap (λ k. count_by taken (take k xs)) (sym (add-one n)) in
      omega (arith, live_first n (omega arith), shows_one n (omega arith), more, next)

  live_all : live_count (card_live xs) 256 ≡ count_by taken xs
  live_all =
      live_first 256 (omega arith) ∙ ap (count_by taken) (take_all 256 xs (omega (arith, sound.places)))

-- ---- a new card book

none_taken : (n : ℕ) → count_by taken (replicate n blank) ≡ 0
none_taken zero = refl
none_taken (suc n) = sum_by-cons weight blank (replicate n blank) ∙ omega (arith, none_taken n)

pub new_sound : CardSound (replicate 256 blank)
new_sound = record { places = length-replicate 256 blank; own = λ k lt other. get_or-replicate 256 k blank blank lt }

new_dead : (s : ℕ) → card_live (replicate 256 blank) s ≡ None
new_dead s =
    ⊎_elim
    (λ (lt : 256 < s). card_above (replicate 256 blank) new_sound s lt)
    (λ (le : s ≤ 256).
    ⊎_elim
    (λ (z : s ≡ 0). cond-true _ _ _ (eq-eqb s 0 z))
    (λ (numbered : s ≡ 0 → ⊥).
    card_hidden (replicate 256 blank) s
    (λ bears. omega (arith, ap (λ e. e.serial) (get_or-replicate 256 (s - 1) blank blank (omega arith)))))
    (cases_eq s 0))
    (cases_lt 256 s)

pub new_empty : card_means (replicate 256 blank) ≡ empty_book card_barred 256
new_empty =
    same_meaning (card_means (replicate 256 blank)) (empty_book card_barred 256) new_dead (λ s. refl)
    (omega (arith, live_all (replicate 256 blank) new_sound, none_taken 256))

module _ (xs : List Entry) (sound : CardSound xs) where
  -- ---- going up the places

  pub not_here : (k : ℕ) → serial_at xs k ≡ 0 → card_live xs (k + 1) ≡ None
  not_here k free =
      card_hidden xs (k + 1) (λ bears. omega (arith, ap (serial_at xs) (place k)))
    where
      place : (k : ℕ) → (k + 1) - 1 ≡ k
      place k = omega arith

  pub stands_here : (k : ℕ) → k < 256 → (serial_at xs k ≡ 0 → ⊥) → serial_at xs k ≡ suc k
  stands_here k lt used =
      ⊎_elim
      (λ (own : serial_at xs k ≡ suc k). own)
      (λ (other : serial_at xs k ≡ suc k → ⊥). absurd (used (ap (λ e. e.serial) (sound.own k lt other))))
      (cases_eq (serial_at xs k) (suc k))

  pub card_next :
      (s k : ℕ) → s ≤ k → k < 256 → (serial_at xs k ≡ 0 → ⊥) → ((j : ℕ) → s ≤ j → j < k → serial_at xs j ≡ 0) →
      Some (get_or xs k blank) ≡ next_after (card_live xs) s
  card_next s k from lt used passed =
      let own : serial_at xs k ≡ suc k = stands_here k lt used in
      let place : serial_at xs k - 1 ≡ k = omega arith in
      next_is (card_live xs) (card_orderly xs sound) s (Some (get_or xs k blank))
      (record {
        above = omega arith;
        found =
            card_shown xs (serial_at xs k) (λ z. omega arith) (ap (serial_at xs) place) ∙ ap (λ j. Some (get_or xs j blank)) place;
        between = λ t lo hi. card_hidden xs t (λ bears. omega (arith, passed (t - 1) (omega arith) (omega arith)));
      })

  pub card_no_next : (s : ℕ) → ((j : ℕ) → s ≤ j → j < 256 → serial_at xs j ≡ 0) → None ≡ next_after (card_live xs) s
  card_no_next s passed =
      next_is (card_live xs) (card_orderly xs sound) s None
      (λ t lo.
      ⊎_elim
      (λ (gt : 256 < t). card_above xs sound t gt)
      (λ (le : t ≤ 256). card_hidden xs t (λ bears. omega (arith, passed (t - 1) (omega arith) (omega arith))))
      (cases_lt 256 t))

  from_drop : (s j : ℕ) → s ≤ j → serial_at (drop s xs) (j - s) ≡ 0 → serial_at xs j ≡ 0
  from_drop s j le free =
      ap (serial_at xs) (omega arith) ∙ sym (ap (λ e. e.serial) (get_or-drop s xs (j - s) blank)) ∙ free

  -- the first record in use among those from s on
  pub card_found :
      (s : ℕ) (r : Option (Bor Entry)) →
      MatchOption r (AllWithin Unused (drop s xs) 0 (length (drop s xs)))
      (λ x. Used x.now × (i : ℕ) × (i < length (drop s xs)) × HoldsAt (λ y. y ≡ x.now) (drop s xs) i × AllWithin Unused (drop s xs) 0 i) →
      option_copied r ≡ next_after (card_live xs) s
  card_found s None none = card_no_next s (λ j lo hi. from_drop s j lo (none (j - s) blank (omega arith) (omega (arith, length-drop s xs, sound.places))))
  card_found s (Some x) (used, i, lt, here, before) =
      let place : get_or xs (s + i) blank ≡ x.now = sym (get_or-drop s xs i blank) ∙ here blank in
      subst (λ e. Some e ≡ next_after (card_live xs) s) place
      (card_next s (s + i) (omega arith) (omega (arith, length-drop s xs, sound.places))
      (λ z. used (sym (ap (λ e. e.serial) place) ∙ z))
      (λ j lo hi. from_drop s j lo (before (j - s) blank (omega arith) (omega arith))))

  -- ---- one record written

  other_place :
      (s : ℕ) (e : Entry) (t : ℕ) → (s ≡ 0 → ⊥) → (t ≡ s → ⊥) → card_live (set xs (s - 1) e) t ≡ card_live xs t
  other_place s e t numbered other =
      ⊎_elim
      (λ (z : t ≡ 0). cond-true _ _ _ (eq-eqb t 0 z) ∙ sym (cond-true _ _ _ (eq-eqb t 0 z)))
      (λ (nz : t ≡ 0 → ⊥).
      ap (λ x. cond (eqb t 0) None (shown x t)) (get_or-set_other xs (s - 1) (t - 1) e blank (λ q. omega arith)))
      (cases_eq t 0)

  within : (s : ℕ) → (s ≡ 0 → ⊥) → s ≤ 256 → s - 1 < length xs
  within s numbered le = omega (arith, sound.places)

  -- the place's own count, before and after
  counted :
      (s : ℕ) (e : Entry) → (s ≡ 0 → ⊥) → s ≤ 256 →
      count_by taken (set xs (s - 1) e) + weight (get_or xs (s - 1) blank) ≡ count_by taken xs + weight e
  counted s e numbered le = sum_by-set weight xs (s - 1) e blank (within s numbered le)

  set_sound :
      (i : ℕ) (e : Entry) → i < 256 → ((e.serial ≡ suc i → ⊥) → e ≡ blank) → CardSound (set xs i e)
  set_sound i e lt fit = record {
    places = length-set xs i e ∙ sound.places;
    own = λ k within-k other.
        ⊎_elim
        (λ (same : k ≡ i).
        let here : get_or (set xs i e) k blank ≡ e =
        ap (λ j. get_or (set xs i e) j blank) same ∙ get_or-set_same xs i e blank (omega (arith, sound.places)) in
        here ∙ fit (λ own. other (ap (λ x. x.serial) here ∙ own ∙ ap suc (sym same))))
        (λ (elsewhere : k ≡ i → ⊥).
        let there : get_or (set xs i e) k blank ≡ get_or xs k blank = get_or-set_other xs i k e blank elsewhere in
        there ∙ sound.own k within-k (λ own. other (ap (λ x. x.serial) there ∙ own)))
        (cases_eq k i);
  }

  -- ---- filing

  pub card_barred_so :
      (e : Entry) → 256 < e.serial → Files (card_means xs) e (Err (denied 7 e.serial)) (card_means xs)
  card_barred_so e high =
      let m = card_means xs in
      files_not m e 6 (Err (denied 7 e.serial)) m
      (number_barred m e.serial (λ z. omega arith) (lt-ltb 256 e.serial high)) refl refl

  bearing : (s : ℕ) → (s ≡ 0 → ⊥) → s ≤ 256 → (serial_at xs (s - 1) ≡ 0 → ⊥) → serial_at xs (s - 1) ≡ s
  bearing s numbered le used = stands_here (s - 1) (omega arith) used ∙ omega arith

  pub card_live_so :
      (e : Entry) → (e.serial ≡ 0 → ⊥) → e.serial ≤ 256 → (serial_at xs (e.serial - 1) ≡ 0 → ⊥) →
      Files (card_means xs) e (Err (denied 8 e.serial)) (card_means xs)
  card_live_so e numbered le used =
      let m = card_means xs in
      let alive = card_shown xs e.serial numbered (bearing e.serial numbered le used) in
      files_not m e 7 (Err (denied 8 e.serial)) m
      (number_live m e.serial numbered (le-ltb 256 e.serial le) (ap is_some alive)) refl refl

  pub card_put_sound :
      (e : Entry) → (e.serial ≡ 0 → ⊥) → e.serial ≤ 256 → CardSound (set xs (e.serial - 1) e)
  card_put_sound e numbered le = set_sound (e.serial - 1) e (omega arith) (λ other. absurd (other (omega arith)))

  pub card_put :
      (e : Entry) → (e.serial ≡ 0 → ⊥) → e.serial ≤ 256 → serial_at xs (e.serial - 1) ≡ 0 →
      Files (card_means xs) e (Ok tt) (card_means (set xs (e.serial - 1) e))
  card_put e numbered le free =
      let m = card_means xs in
      let s = e.serial in
      let ys = set xs (s - 1) e in
      let dead : card_live xs s ≡ None = card_hidden xs s (λ bears. omega arith) in
      let count : count_by taken ys ≡ count_by taken xs + 1 =
      omega (arith, counted s e numbered le, used_one e numbered, free_one (get_or xs (s - 1) blank) free) in
      let most : count_by taken ys ≤ 256 =
      omega (arith, count_by-le-length taken ys, length-set xs (s - 1) e, sound.places) in
      let before = live_all xs sound in
      let after = live_all ys (card_put_sound e numbered le) in
      let here : get_or ys (s - 1) blank ≡ e = get_or-set_same xs (s - 1) e blank (within s numbered le) in
      let grown = means (with_entry (card_live xs) e) card_barred (card_free xs - 1) in
      files_so m e (Ok tt) (card_means ys)
      (number_free m s numbered (le-ltb 256 s le) (ap is_some dead) (λ z. omega arith))
      refl
      (same_meaning (card_means ys) grown
      (λ t. ⊎_elim
      (λ (same : t ≡ s).
      ap (card_live ys) same ∙ card_shown ys s numbered (ap (λ x. x.serial) here) ∙ ap Some here ∙
      sym (with_here (card_live xs) e t same))
      (λ (other : t ≡ s → ⊥). other_place s e t numbered other ∙ sym (with_other (card_live xs) e t other))
      (cases_eq t s))
      (λ t. refl)
      (omega arith))

  -- ---- striking

  pub card_alive : (s : ℕ) → is_some (card_live xs s) ≡ true → (s ≡ 0 → ⊥) × (s ≤ 256)
  card_alive s live = (
    λ z. both_ways _ (ap is_some (cond-true _ _ _ (eq-eqb s 0 z))) live,
    ⊎_elim
        (λ (high : 256 < s). absurd (both_ways _ (ap is_some (card_above xs sound s high)) live))
        (λ (le : s ≤ 256). le)
        (cases_lt 256 s),
  )

  pub card_cleared_sound : (s : ℕ) → (s ≡ 0 → ⊥) → s ≤ 256 → CardSound (set xs (s - 1) blank)
  card_cleared_sound s numbered le = set_sound (s - 1) blank (omega arith) (λ other. refl)

  pub card_cleared :
      (s : ℕ) → is_some (card_live xs s) ≡ true → Strikes (card_means xs) s (Ok tt) (card_means (set xs (s - 1) blank))
  card_cleared s live =
      let m = card_means xs in
      let ys = set xs (s - 1) blank in
      let numbered = (card_alive s live).0 in
      let le = (card_alive s live).1 in
      let used : serial_at xs (s - 1) ≡ 0 → ⊥ =
      λ z. both_ways _ (ap is_some (card_hidden xs s (λ bears. numbered (sym bears ∙ z)))) live in
      let count : count_by taken ys + 1 ≡ count_by taken xs =
      omega (arith, counted s blank numbered le, used_one (get_or xs (s - 1) blank) used, free_one blank refl) in
      let most : count_by taken xs ≤ 256 = omega (arith, count_by-le-length taken xs, sound.places) in
      let before = live_all xs sound in
      let after = live_all ys (card_cleared_sound s numbered le) in
      let here : get_or ys (s - 1) blank ≡ blank = get_or-set_same xs (s - 1) blank blank (within s numbered le) in
      let shrunk = means (without (card_live xs) s) card_barred (card_free xs + 1) in
      strikes_so m s (Ok tt) (card_means ys) live refl
      (same_meaning (card_means ys) shrunk
      (λ t. ⊎_elim
      (λ (same : t ≡ s).
      ap (card_live ys) same ∙
      card_hidden ys s (λ bears. numbered (sym bears ∙ ap (λ x. x.serial) here)) ∙
      sym (without_here (card_live xs) s t same))
      (λ (other : t ≡ s → ⊥). other_place s blank t numbered other ∙ sym (without_other (card_live xs) s t other))
      (cases_eq t s))
      (λ t. refl)
      (omega arith))
