-- What rising records hold under a serial, and which comes next. Assumes nothing.
use Rattle.std.proofs.Common.{◌≡◌, ℕ, zero, suc, ◌+◌, ◌<◌, ◌≤◌, List, length, get_or, Some, None, Option, Bor, sym, refl, ap, ◌∙◌, ⊎_elim, arith}
use Rattle.std.specs.Option.{option_copied}
use Rattle.std.specs.Slice.{IsItemAt}
use Rattle.std.proofs.lemmas.Grind.{common_steps}
use Rattle.std.proofs.lemmas.Bool.{eq-eqb, ne_eqb, cases_eq, cases_lt, cond-true, cond-false}
use Rattle.book.specs.declared.entry.Entry.{Entry}
use Rattle.book.specs.Live.{blank, next_after}
use Rattle.records.specs.Records.{serial_at, held, Rising, InUse, Placed}
use Rattle.records.specs.Orderly.{held_none, in_use_orderly}
use Rattle.book.proofs.Scan.{next_is}

-- the serial is borne by record k, or by none
pub data Bearer (xs : List Entry) (n s : ℕ) : Type 0 where
  borne : (k : ℕ) → k < n → serial_at xs k ≡ s → held xs n s ≡ Some (get_or xs k blank) → Bearer xs n s
  unborne : ((k : ℕ) → k < n → serial_at xs k ≡ s → ⊥) → held xs n s ≡ None → Bearer xs n s

module _ (xs : List Entry) where
  later : (n s : ℕ) → (serial_at xs n ≡ s → ⊥) → Bearer xs n s → Bearer xs (suc n) s
  later n s other (borne k lt at is) = borne k (omega arith) at (cond-false _ _ _ (ne_eqb (serial_at xs n) s other) ∙ is)
  later n s other (unborne none is) =
      unborne
      (λ k lt at.
      ⊎_elim (λ (e : k ≡ n). other (sym (ap (serial_at xs) e) ∙ at)) (λ ne. none k (omega arith) at) (cases_eq k n))
      (cond-false _ _ _ (ne_eqb (serial_at xs n) s other) ∙ is)

  pub bearer : (n s : ℕ) → Bearer xs n s
  bearer zero s = unborne (λ k lt at. omega arith) refl
  bearer (suc n) s =
      ⊎_elim
      (λ (same : serial_at xs n ≡ s). borne n (omega arith) same (cond-true _ _ _ (eq-eqb (serial_at xs n) s same)))
      (λ other. later n s other (bearer n s))
      (cases_eq (serial_at xs n) s)

  pub one_bearer : (n i j : ℕ) → Rising xs n → i < n → j < n → serial_at xs i ≡ serial_at xs j → i ≡ j
  one_bearer n i j rising li lj same = grind (arith, rising i j, rising j i)

  pub held_some :
      (n s k : ℕ) → Rising xs n → k < n → serial_at xs k ≡ s → held xs n s ≡ Some (get_or xs k blank)
  held_some n s k rising lt at =
      elim (bearer n s) [
        | borne j lj jt is ↦ is ∙ ap (λ i. Some (get_or xs i blank)) (one_bearer n j k rising lj lt (jt ∙ sym at))
        | unborne no_one is ↦ absurd (no_one k lt at)
      ]

module _ (xs : List Entry) (in_use : InUse xs) where
  pub next_held :
      (s at : ℕ) → Placed xs (length xs) (s + 1) at → at < length xs → Some (get_or xs at blank) ≡ next_after (held xs (length xs)) s
  next_held s at placed lt =
      next_is (held xs (length xs)) (in_use_orderly xs in_use) s (Some (get_or xs at blank))
      (record {
        above = omega (arith, placed.onward at (omega arith) lt);
        found = held_some xs (length xs) (serial_at xs at) at in_use.rising lt refl;
        between = λ t lo hi.
            held_none xs (length xs) t
            (λ k lk e. let same = λ (q : k ≡ at). ap (serial_at xs) q in grind (arith, same, placed.before k, in_use.rising at k));
      })

  pub next_none : (s at : ℕ) → Placed xs (length xs) (s + 1) at → length xs ≤ at → None ≡ next_after (held xs (length xs)) s
  next_none s at placed le =
      next_is (held xs (length xs)) (in_use_orderly xs in_use) s None
      (λ t lo. held_none xs (length xs) t (λ k lk e. omega (arith, placed.before k (omega arith))))

  -- what is lent from that place, if it is one of theirs
  pub next_found :
      (s at : ℕ) → Placed xs (length xs) (s + 1) at → (r : Option (Bor Entry)) → IsItemAt xs at r →
      option_copied r ≡ next_after (held xs (length xs)) s
  next_found s at placed r item =
      ⊎_elim
      (λ (lt : at < length xs). let here : option_copied r ≡ Some (get_or xs at blank) = grind (arith, common_steps) in here ∙ next_held s at placed lt)
      (λ (le : length xs ≤ at). let past : option_copied r ≡ None = grind (arith, common_steps) in past ∙ next_none s at placed le)
      (cases_lt at (length xs))
