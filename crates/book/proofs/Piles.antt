-- The law of two recall layers over any book. Assumes nothing.
use Rattle.std.proofs.Common.{◌≡◌, ℕ, true, false, List, Err, sym, refl, ap, ◌∙◌, ⊎_elim}
use Rattle.std.proofs.lemmas.Bool.{cases_Bool, cond-true, cond-false}
use Rattle.denials.specs.Denials.{denied}
use Rattle.book.specs.Meaning.{Meaning, file_answer, file_after, strike_answer, strike_after}
use Rattle.book.specs.Serials.{on}
use Rattle.book.specs.Recall.{recall_means, recalled_here, recalled_other, recalled_none}
use Rattle.book.specs.Pile.{piled, Recalled, PassedOn, Piled}
use Rattle.book.proofs.Layers.{recalled_files, recalled_strikes, files_below, strikes_below}

-- a serial on the sheet of one layer
recalled_one : (xs : List ℕ) (m : Meaning) → on xs 0 ≡ false → (s : ℕ) → on xs s ≡ true → Recalled (recall_means xs m) s
recalled_one xs m numbered s listed =
    let strikes = recalled_strikes xs m s listed in
    record {
      hidden = recalled_here xs m.live s listed;
      barred = cond-true _ _ _ listed;
      filing = λ e same.
          let files = recalled_files xs m e numbered (ap (on xs) same ∙ listed) in
          (sym files.answer ∙ ap (λ t. Err (denied 7 t)) same, sym files.after);
      striking = (sym strikes.answer, sym strikes.after);
    }

-- a layer over a book that recalls a serial recalls it too
recalled_under : (xs : List ℕ) (p : Meaning) (s : ℕ) → on xs s ≡ false → Recalled p s → Recalled (recall_means xs p) s
recalled_under xs p s unlisted below =
    let strikes = strikes_below xs p s (strike_answer p s) (strike_after p s) unlisted refl refl in
    record {
      hidden = recalled_none xs p.live s below.hidden;
      barred = cond-false _ _ _ unlisted ∙ below.barred;
      filing = λ e same.
          let files = files_below xs p e (file_answer p e) (file_after p e) (ap (on xs) same ∙ unlisted) refl refl in
          let told = below.filing e same in
          (sym files.answer ∙ told.0, sym files.after ∙ ap (recall_means xs) told.1);
      striking =
          (sym strikes.answer ∙ below.striking.0, sym strikes.after ∙ ap (recall_means xs) below.striking.1);
    }

module _ (upper lower : List ℕ) (m : Meaning) (s : ℕ) where
  on_lower : on upper 0 ≡ false → on lower 0 ≡ false → on lower s ≡ true → Recalled (piled upper lower m) s
  on_lower high low listed =
      ⊎_elim
      (λ (both : on upper s ≡ true). recalled_one upper (recall_means lower m) high s both)
      (λ (unlisted : on upper s ≡ false). recalled_under upper (recall_means lower m) s unlisted (recalled_one lower m low s listed))
      (cases_Bool (on upper s))

  on_neither : on upper s ≡ false → on lower s ≡ false → PassedOn upper lower m s
  on_neither high low =
      let p = recall_means lower m in
      let strikes = strikes_below lower m s (strike_answer m s) (strike_after m s) low refl refl in
      let strikes-up = strikes_below upper p s (strike_answer p s) (strike_after p s) high refl refl in
      record {
        shown = recalled_other upper p.live s high ∙ recalled_other lower m.live s low;
        bars = cond-false _ _ _ high ∙ cond-false _ _ _ low;
        filing = λ e same.
            let files = files_below lower m e (file_answer m e) (file_after m e) (ap (on lower) same ∙ low) refl refl in
            let files-up = files_below upper p e (file_answer p e) (file_after p e) (ap (on upper) same ∙ high) refl refl in
            (sym files-up.answer ∙ sym files.answer, sym files-up.after ∙ ap (recall_means upper) (sym files.after));
        striking = (
          sym strikes-up.answer ∙ sym strikes.answer,
          sym strikes-up.after ∙ ap (recall_means upper) (sym strikes.after),
        );
      }

pub piles : Piled
piles upper lower m high low s =
    (⊎_elim (recalled_one upper (recall_means lower m) high s) (on_lower upper lower m s high low), on_neither upper lower m s)
