-- Meaning                    what a book means: its live entries by serial, its barred serials, its free places
-- means live barred free     the three put together
-- empty_book bars n          the meaning of a book with no live entry and n free places
-- with_entry live e          the live entries, and e besides
-- without live s             the live entries but that of s
-- answered n place           the answer of a call whose denial has the number n; 0 is no denial
-- settled n before after     what is there after such a call: a denial changes nothing
-- filing_number m s          0 if an entry of serial s can be filed, or the number of the denial
-- file_answer m e            what filing e answers
-- file_after m e             what the book means after filing e
-- striking_number m s        0 if serial s can be struck, or the number of the denial
-- strike_answer m s          what striking s answers
-- strike_after m s           what the book means after striking s
use Rattle.std.specs.Prelude.{ℕ, zero, suc, ◌+◌, ◌-◌, Bool, cond, is_some, Some, None, Ok, Err, Option, Result, ◌==◌}
use Rattle.denials.specs.declared.denial.Denial.{Denial}
use Rattle.denials.specs.Denials.{denied}
use Rattle.book.specs.declared.entry.Entry.{Entry}

pub record Meaning : Type 0 where
  pub live : ℕ → Option Entry
  pub barred : ℕ → Bool
  pub free : ℕ

abbrev pub means : (ℕ → Option Entry) → (ℕ → Bool) → ℕ → Meaning
means entries bars places = record { live = entries; barred = bars; free = places }

abbrev pub empty_book : (ℕ → Bool) → ℕ → Meaning
empty_book bars places = means (λ s. None) bars places

abbrev pub with_entry : (ℕ → Option Entry) → Entry → ℕ → Option Entry
with_entry live e s = cond (s == e.serial) (Some e) (live s)

abbrev pub without : (ℕ → Option Entry) → ℕ → ℕ → Option Entry
without live t s = cond (s == t) None (live s)

abbrev pub answered : ℕ → ℕ → Result (Unit {0}) Denial
answered zero place = Ok tt
answered (suc n) place = Err (denied (suc n) place)

abbrev pub settled : ℕ → Meaning → Meaning → Meaning
settled zero before after = after
settled (suc n) before after = before

abbrev pub filing_number : Meaning → ℕ → ℕ
filing_number m s =
    cond (s == 0) 6
    (cond (m.barred s) 7
    (cond (is_some (m.live s)) 8
    (cond (m.free == 0) 9 0)))

abbrev pub file_answer : Meaning → Entry → Result (Unit {0}) Denial
file_answer m e = answered (filing_number m e.serial) e.serial

abbrev pub file_after : Meaning → Entry → Meaning
file_after m e =
    settled (filing_number m e.serial) m (means (with_entry m.live e) m.barred (m.free - 1))

abbrev pub striking_number : Meaning → ℕ → ℕ
striking_number m s = cond (is_some (m.live s)) 0 11

abbrev pub strike_answer : Meaning → ℕ → Result (Unit {0}) Denial
strike_answer m s = answered (striking_number m s) s

abbrev pub strike_after : Meaning → ℕ → Meaning
strike_after m s =
    settled (striking_number m s) m (means (without m.live s) m.barred (m.free + 1))
