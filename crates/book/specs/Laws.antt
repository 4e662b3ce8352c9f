-- NextExact                Next says exactly what next_after computes, of orderly live entries
-- Unfileable m e d         filing e is denied with d: the first ground that fits, in the order 6, 7, 8, 9
-- Entered before e after   e is live besides, on one free place, and all else is as before
-- Filed before e r after   what filing e answers and leaves: entered, or denied with nothing changed
-- Unstrikable m s d        striking s is denied with d
-- Removed before s after   s is live no more, its place is free, and all else is as before
-- Struck before s r after  what striking s answers and leaves
-- FilingExact              Filed says exactly what file_answer and file_after compute
-- StrikingExact            Struck says exactly what strike_answer and strike_after compute
-- TakenBack                an entry filed and struck again leaves the book as it was
use Rattle.std.specs.Prelude.{◌≡◌, ℕ, suc, true, false, Some, None, Ok, Err, Option, Result, ◌≢◌}
use Rattle.denials.specs.declared.denial.Denial.{Denial}
use Rattle.denials.specs.Denials.{denied}
use Rattle.book.specs.declared.entry.Entry.{Entry}
use Rattle.book.specs.Live.{Orderly, Next, next_after}
use Rattle.book.specs.Meaning.{Meaning, file_answer, file_after, strike_answer, strike_after}

abbrev pub NextExact : Type 0
NextExact =
    (live : ℕ → Option Entry) → Orderly live → (s : ℕ) (r : Option Entry) →
    (Next live s r → r ≡ next_after live s) × (r ≡ next_after live s → Next live s r)

pub data Unfileable (m : Meaning) (e : Entry) (d : Denial) : Type 0 where
  serial_zero : e.serial ≡ 0 → d ≡ denied 6 e.serial → Unfileable m e d
  serial_barred : (e.serial ≢ 0) → m.barred e.serial ≡ true → d ≡ denied 7 e.serial → Unfileable m e d
  serial_live :
      (e.serial ≢ 0) → m.barred e.serial ≡ false → (old : Entry) → m.live e.serial ≡ Some old →
      d ≡ denied 8 e.serial → Unfileable m e d
  no_place :
      (e.serial ≢ 0) → m.barred e.serial ≡ false → m.live e.serial ≡ None → m.free ≡ 0 →
      d ≡ denied 9 e.serial → Unfileable m e d

pub record Entered (before : Meaning) (e : Entry) (after : Meaning) : Type 0 where
  pub numbered : e.serial ≡ 0 → ⊥
  pub open_serial : before.barred e.serial ≡ false
  pub unused : before.live e.serial ≡ None
  pub entry : after.live e.serial ≡ Some e
  pub others : (s : ℕ) → (s ≢ e.serial) → after.live s ≡ before.live s
  pub bars : (s : ℕ) → after.barred s ≡ before.barred s
  pub places : suc after.free ≡ before.free

abbrev pub Filed : Meaning → Entry → Result (Unit {0}) Denial → Meaning → Type 0
Filed before e (Ok u) after = Entered before e after
Filed before e (Err d) after = Unfileable before e d × (after ≡ before)

pub record Unstrikable (m : Meaning) (s : ℕ) (d : Denial) : Type 0 where
  pub dead : m.live s ≡ None
  pub denial : d ≡ denied 11 s

pub record Removed (before : Meaning) (s : ℕ) (after : Meaning) : Type 0 where
  pub was : (e : Entry) × (before.live s ≡ Some e)
  pub gone : after.live s ≡ None
  pub others : (t : ℕ) → (t ≢ s) → after.live t ≡ before.live t
  pub bars : (t : ℕ) → after.barred t ≡ before.barred t
  pub places : after.free ≡ suc before.free

abbrev pub Struck : Meaning → ℕ → Result (Unit {0}) Denial → Meaning → Type 0
Struck before s (Ok u) after = Removed before s after
Struck before s (Err d) after = Unstrikable before s d × (after ≡ before)

abbrev pub FilingExact : Type 0
FilingExact =
    (m : Meaning) (e : Entry) (r : Result (Unit {0}) Denial) (n : Meaning) →
    (Filed m e r n → (r ≡ file_answer m e) × (n ≡ file_after m e)) ×
    ((r ≡ file_answer m e) × (n ≡ file_after m e) → Filed m e r n)

abbrev pub StrikingExact : Type 0
StrikingExact =
    (m : Meaning) (s : ℕ) (r : Result (Unit {0}) Denial) (n : Meaning) →
    (Struck m s r n → (r ≡ strike_answer m s) × (n ≡ strike_after m s)) ×
    ((r ≡ strike_answer m s) × (n ≡ strike_after m s) → Struck m s r n)

abbrev pub TakenBack : Type 0
TakenBack =
    (m : Meaning) (e : Entry) → file_answer m e ≡ Ok tt →
    (strike_answer (file_after m e) e.serial ≡ Ok tt) × (strike_after (file_after m e) e.serial ≡ m)
