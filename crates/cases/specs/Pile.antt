-- asked m e other        the answers of a book that means m: e looked up, filed and struck, then another filed
-- a_rule s n             the rule of serial s over statement row n
-- held_before            a ledger of three records that holds an entry of serial 5
-- WorkedPile r           r is what that ledger answers under sheets with 5 and 6: the entry is recalled, and serial 7 can be filed
use Rattle.std.specs.Prelude.{◌≡◌, ℕ, false, [], ◌∷◌, Some, None, Ok, Err}
use Rattle.denials.specs.Denials.{denied}
use Rattle.book.specs.declared.entry.Entry.{Entry}
use Rattle.book.specs.declared.entry.Standing.TheVariants.{Rule}
use Rattle.book.specs.Meaning.{Meaning, empty_book, file_answer, file_after, strike_answer, strike_after}
use Rattle.book.specs.Pile.{piled}
use Rattle.cases.specs.declared.pile.Answers.{Answers}

abbrev pub asked : Meaning → Entry → Entry → Answers
asked m e other = record {
  found = m.live e.serial;
  filed = file_answer m e;
  struck = strike_answer (file_after m e) e.serial;
  other = file_answer (strike_after (file_after m e) e.serial) other;
}

abbrev pub a_rule : ℕ → ℕ → Entry
a_rule s n = record { serial = s; standing = Rule; row = n }

abbrev pub held_before : Meaning
held_before = file_after (empty_book (λ s. false) 3) (a_rule 5 2)

abbrev pub WorkedPile : Answers → Type 0
WorkedPile r =
    (held_before.live 5 ≡ Some (a_rule 5 2)) ×
    (r ≡ asked (piled (5 ∷ []) (6 ∷ []) held_before) (a_rule 5 2) (a_rule 7 3)) ×
    (r.found ≡ None) ×
    (r.filed ≡ Err (denied 7 5)) ×
    (r.struck ≡ Err (denied 11 5)) ×
    (r.other ≡ Ok tt)
