-- What a recall layer makes of a call on the book below. Assumes nothing.
use Rattle.std.proofs.Common.{◌≡◌, ℕ, zero, suc, ◌+◌, ◌-◌, true, false, not, cond, List, is_some, Some, None, Err, Option, Result, sym, refl, ap, ◌∙◌, ⊎_elim, arith}
use Rattle.std.proofs.lemmas.Bool.Decides.{nat_tests}
use Rattle.std.proofs.lemmas.Bool.{cases_Bool, cond-true, both_ways}
use Rattle.denials.specs.declared.denial.Denial.{Denial}
use Rattle.denials.specs.Denials.{denied}
use Rattle.book.specs.declared.entry.Entry.{Entry}
use Rattle.std.specs.List.{find}
use Rattle.std.proofs.lemmas.Grind.{common_steps}
use Rattle.book.specs.Live.{Orderly, or_else, first_from, next_after}
use Rattle.book.specs.Listings.{before, gathered, live_above}
use Rattle.book.specs.Meaning.{Meaning, means, with_entry, without, answered, settled, filing_number, file_answer, file_after, striking_number, strike_answer, strike_after}
use Rattle.book.specs.Serials.{on}
use Rattle.book.specs.Recall.{recalled_live, recalled_barred, recall_means, recalled_here, recalled_other}
use Rattle.book.proofs.Outcomes.{Files, files_not, number_barred, Strikes, strikes_not}
use Rattle.book.proofs.Exact.{same_meaning}

settled_below :
    (xs : List ℕ) (c : ℕ) (m n : Meaning) → recall_means xs (settled c m n) ≡ settled c (recall_means xs m) (recall_means xs n)
settled_below xs zero m n = refl
settled_below xs (suc c) m n = refl

module _ (xs : List ℕ) (m : Meaning) where
  -- a serial that is not on the sheet has the number that it has below
  same_number :
      (s : ℕ) → on xs s ≡ false → filing_number (recall_means xs m) s ≡ filing_number m s
  same_number s unlisted = grind (arith, common_steps)

  with_below :
      (e : Entry) → on xs e.serial ≡ false → (t : ℕ) →
      recalled_live xs (with_entry m.live e) t ≡ with_entry (recalled_live xs m.live) e t
  with_below e unlisted t = let moved = λ (same : t ≡ e.serial). ap (on xs) same in grind (arith, nat_tests, common_steps, moved)

  without_below :
      (s : ℕ) (t : ℕ) → recalled_live xs (without m.live s) t ≡ without (recalled_live xs m.live) s t
  without_below s t = grind (arith, nat_tests, common_steps)

  pub files_below :
      (e : Entry) (r : Result (Unit {0}) Denial) (n : Meaning) → on xs e.serial ≡ false →
      r ≡ file_answer m e → n ≡ file_after m e → Files (recall_means xs m) e r (recall_means xs n)
  files_below e r n unlisted answer after =
      let number = same_number e.serial unlisted in
      let entered = means (with_entry m.live e) m.barred (m.free - 1) in
      let grown = means (with_entry (recalled_live xs m.live) e) (recalled_barred xs m.barred) (m.free - 1) in
      let same : recall_means xs entered ≡ grown =
      same_meaning (recall_means xs entered) grown (with_below e unlisted) (λ t. refl) refl in
      record {
        answer = answer ∙ ap (λ c. answered c e.serial) (sym number);
        after =
            ap (recall_means xs) after ∙ settled_below xs (filing_number m e.serial) m entered ∙
            ap (settled (filing_number m e.serial) (recall_means xs m)) same ∙
            ap (λ c. settled c (recall_means xs m) grown) (sym number);
      }

  pub strikes_below :
      (s : ℕ) (r : Result (Unit {0}) Denial) (n : Meaning) → on xs s ≡ false →
      r ≡ strike_answer m s → n ≡ strike_after m s → Strikes (recall_means xs m) s r (recall_means xs n)
  strikes_below s r n unlisted answer after =
      let number : striking_number (recall_means xs m) s ≡ striking_number m s =
      ap (λ o. cond (is_some o) 0 11) (recalled_other xs m.live s unlisted) in
      let removed = means (without m.live s) m.barred (m.free + 1) in
      let shrunk = means (without (recalled_live xs m.live) s) (recalled_barred xs m.barred) (m.free + 1) in
      let same : recall_means xs removed ≡ shrunk =
      same_meaning (recall_means xs removed) shrunk (without_below s) (λ t. refl) refl in
      record {
        answer = answer ∙ ap (λ c. answered c s) (sym number);
        after =
            ap (recall_means xs) after ∙ settled_below xs (striking_number m s) m removed ∙
            ap (settled (striking_number m s) (recall_means xs m)) same ∙
            ap (λ c. settled c (recall_means xs m) shrunk) (sym number);
      }

  pub recalled_files :
      (e : Entry) → on xs 0 ≡ false → on xs e.serial ≡ true →
      Files (recall_means xs m) e (Err (denied 7 e.serial)) (recall_means xs m)
  recalled_files e numbered listed =
      let n = recall_means xs m in
      let barred : n.barred e.serial ≡ true = cond-true _ _ _ listed in
      files_not n e 6 (Err (denied 7 e.serial)) n
      (number_barred n e.serial (λ z. both_ways (on xs 0) numbered (sym (ap (on xs) z) ∙ listed)) barred)
      refl
      refl

  pub recalled_strikes :
      (s : ℕ) → on xs s ≡ true → Strikes (recall_means xs m) s (Err (denied 11 s)) (recall_means xs m)
  recalled_strikes s listed =
      let n = recall_means xs m in
      strikes_not n s (Err (denied 11 s)) n (ap is_some (recalled_here xs m.live s listed)) refl refl

-- the first entry that a layer does not hide, going up from a serial
module _ (xs : List ℕ) (live : ℕ → Option Entry) (orderly : Orderly live) where
  shown_here :
      (s : ℕ) (o : Option Entry) (es : List Entry) → live s ≡ o →
      find (λ e. not (on xs e.serial)) (before o es) ≡ or_else (cond (on xs s) None o) (find (λ e. not (on xs e.serial)) es)
  shown_here s None es at = elim (on xs s) as (λ b. find (λ e. not (on xs e.serial)) es ≡ or_else (cond b None None) (find (λ e. not (on xs e.serial)) es)) [ true ↦ refl | false ↦ refl ]
  shown_here s (Some e) es at =
      let same : on xs e.serial ≡ on xs s = ap (on xs) (orderly.bears s e at) in
      ⊎_elim
      (λ (listed : on xs s ≡ true). grind (arith, common_steps))
      (λ (unlisted : on xs s ≡ false). grind (arith, common_steps))
      (cases_Bool (on xs s))

  shown_first : (n s : ℕ) → find (λ e. not (on xs e.serial)) (gathered live s n) ≡ first_from (recalled_live xs live) s n
  unfolding gathered
  shown_first zero s = refl
  shown_first (suc n) s =
      shown_here s (live s) (gathered live (suc s) n) refl ∙ ap (or_else (recalled_live xs live s)) (shown_first n (suc s))

  pub shown_next : (s : ℕ) → find (λ e. not (on xs e.serial)) (live_above live s) ≡ next_after (recalled_live xs live) s
  shown_next s = shown_first (65535 - s) (suc s)
