-- piled upper lower m     what two sheets, one over the other, make of a book that means m
-- Recalled p s            serial s is recalled in a book that means p: not live, barred, denied with 7 and 11
-- PassedOn upper lower m s   serial s is in the pile as it is in the book that means m
-- Piled                   what is on either sheet is recalled, and what is on neither is passed on
use Rattle.std.specs.Prelude.{◌≡◌, ℕ, true, false, ◌⊎◌, List, None, Err}
use Rattle.denials.specs.Denials.{denied}
use Rattle.book.specs.declared.entry.Entry.{Entry}
use Rattle.book.specs.Meaning.{Meaning, file_answer, file_after, strike_answer, strike_after}
use Rattle.book.specs.Serials.{on}
use Rattle.book.specs.Recall.{recall_means}

abbrev pub piled : List ℕ → List ℕ → Meaning → Meaning
piled upper lower m = recall_means upper (recall_means lower m)

pub record Recalled (p : Meaning) (s : ℕ) : Type 0 where
  pub hidden : p.live s ≡ None
  pub barred : p.barred s ≡ true
  pub filing : (e : Entry) → e.serial ≡ s → (file_answer p e ≡ Err (denied 7 s)) × (file_after p e ≡ p)
  pub striking : (strike_answer p s ≡ Err (denied 11 s)) × (strike_after p s ≡ p)

pub record PassedOn (upper lower : List ℕ) (m : Meaning) (s : ℕ) : Type 0 where
  pub shown : (piled upper lower m).live s ≡ m.live s
  pub bars : (piled upper lower m).barred s ≡ m.barred s
  pub filing :
      (e : Entry) → e.serial ≡ s →
      (file_answer (piled upper lower m) e ≡ file_answer m e) ×
      (file_after (piled upper lower m) e ≡ piled upper lower (file_after m e))
  pub striking :
      (strike_answer (piled upper lower m) s ≡ strike_answer m s) ×
      (strike_after (piled upper lower m) s ≡ piled upper lower (strike_after m s))

abbrev pub Piled : Type 0
Piled =
    (upper lower : List ℕ) (m : Meaning) → on upper 0 ≡ false → on lower 0 ≡ false → (s : ℕ) →
    ((on upper s ≡ true) ⊎ (on lower s ≡ true) → Recalled (piled upper lower m) s) ×
    (on upper s ≡ false → on lower s ≡ false → PassedOn upper lower m s)
