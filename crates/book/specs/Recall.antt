-- recalled_live xs live        the live entries below, but those whose serials are on the sheet
-- recalled_barred xs barred    the serials barred below, and those on the sheet
-- recall_means xs m            what a recall layer with the sheet xs means over a book that means m
use Rattle.std.specs.Prelude.{◌≡◌, ℕ, Bool, true, false, cond, List, None, Option}
use Rattle.std.proofs.Common.{sym, ◌∙◌, ⊎_elim}
use Rattle.std.proofs.lemmas.Bool.{cases_Bool, cond-true, cond-false}
use Rattle.book.specs.declared.entry.Entry.{Entry}
use Rattle.book.specs.Live.{Orderly}
use Rattle.book.specs.Meaning.{Meaning, means}
use Rattle.book.specs.Single.{some_none}
use Rattle.book.specs.Serials.{on}

abbrev pub recalled_live : List ℕ → (ℕ → Option Entry) → ℕ → Option Entry
recalled_live xs live s = cond (on xs s) None (live s)

abbrev pub recalled_barred : List ℕ → (ℕ → Bool) → ℕ → Bool
recalled_barred xs barred s = cond (on xs s) true (barred s)

abbrev pub recall_means : List ℕ → Meaning → Meaning
recall_means xs m = means (recalled_live xs m.live) (recalled_barred xs m.barred) m.free

module _ (xs : List ℕ) (live : ℕ → Option Entry) where
  pub recalled_here : (s : ℕ) → on xs s ≡ true → recalled_live xs live s ≡ None
  recalled_here s listed = cond-true _ _ _ listed

  pub recalled_other : (s : ℕ) → on xs s ≡ false → recalled_live xs live s ≡ live s
  recalled_other s unlisted = cond-false _ _ _ unlisted

  pub recalled_none : (s : ℕ) → live s ≡ None → recalled_live xs live s ≡ None
  recalled_none s dead =
      ⊎_elim (recalled_here s) (λ (unlisted : on xs s ≡ false). recalled_other s unlisted ∙ dead) (cases_Bool (on xs s))

  -- a layer's `orderly` cites it
  pub recalled_orderly : Orderly live → Orderly (recalled_live xs live)
  recalled_orderly below = record {
    zero_free = recalled_none 0 below.zero_free;
    ends = λ s past. recalled_none s (below.ends s past);
    bears = λ s e found.
        ⊎_elim
        (λ (listed : on xs s ≡ true). absurd (some_none (recalled_live xs live s) e found (recalled_here s listed)))
        (λ (unlisted : on xs s ≡ false). below.bears s e (sym (recalled_other s unlisted) ∙ found))
        (cases_Bool (on xs s));
  }
