-- serial_at xs k             the serial of record k
-- held xs n s                the entry among the first n records that bears serial s
-- Rising xs n                the serials of the first n records rise
-- Kept xs size n             of the first size records the first n hold live entries in rising order, the rest are blank
-- InUse xs                   the records xs are all in use: live entries in rising order
-- kept_means xs size n       what a book of such records means: it bars nothing
-- Placed xs n from at        at is the first of n rising records whose serial is not below from, or n
-- Sought xs n s answer       the record that bears s, or the place where it would stand
-- ShiftedIn xs n at e ys     ys is xs with e put in at place at, and the records from there to n moved up by one
-- ShiftedOut xs n at ys      ys is xs without record at, those from there to n moved down by one, and a blank last
use Rattle.std.specs.Prelude.{◌≡◌, ℕ, zero, suc, ◌-◌, ◌<◌, ◌≤◌, false, cond, List, length, get_or, Some, None, Ok, Err, Option, Result, ◌==◌, ◌≢◌, slice_index_or}
use Rattle.book.specs.declared.entry.Entry.{Entry}
use Rattle.book.specs.Live.{blank}
use Rattle.book.specs.Meaning.{Meaning, means}

abbrev pub serial_at : List Entry → ℕ → ℕ
serial_at xs k = (get_or xs k blank).serial

abbrev pub held : List Entry → ℕ → ℕ → Option Entry
held xs zero s = None
held xs (suc n) s = cond (serial_at xs n == s) (Some (slice_index_or xs n blank)) (held xs n s)

abbrev pub Rising : List Entry → ℕ → Type 0
Rising xs n = (i j : ℕ) → i < j → j < n → serial_at xs i < serial_at xs j

pub record Kept (xs : List Entry) (size n : ℕ) : Type 0 where
  pub fits : n ≤ size
  pub within : size ≤ length xs
  pub rising : Rising xs n
  pub low : (k : ℕ) → k < n → 0 < serial_at xs k
  pub high : (k : ℕ) → k < n → serial_at xs k ≤ 65535
  pub rest : (k : ℕ) → n ≤ k → k < size → slice_index_or xs k blank ≡ blank

pub record InUse (xs : List Entry) : Type 0 where
  pub rising : Rising xs (length xs)
  pub low : (k : ℕ) → k < length xs → 0 < serial_at xs k
  pub high : (k : ℕ) → k < length xs → serial_at xs k ≤ 65535

abbrev pub kept_means : List Entry → ℕ → ℕ → Meaning
kept_means xs size n = means (held xs n) (λ s. false) (size - n)

pub record Placed (xs : List Entry) (n from at : ℕ) : Type 0 where
  pub within : at ≤ n
  pub before : (k : ℕ) → k < at → serial_at xs k < from
  pub onward : (k : ℕ) → at ≤ k → k < n → from ≤ serial_at xs k

abbrev pub Sought : List Entry → ℕ → ℕ → Result ℕ ℕ → Type 0
Sought xs n s (Ok at) = (at < n) × (serial_at xs at ≡ s)
Sought xs n s (Err at) = Placed xs n s at × ((k : ℕ) → k < n → serial_at xs k ≢ s)

pub record ShiftedIn (xs : List Entry) (n at : ℕ) (e : Entry) (ys : List Entry) : Type 0 where
  pub size : length ys ≡ length xs
  pub below : (k : ℕ) → k < at → slice_index_or ys k blank ≡ slice_index_or xs k blank
  pub here : get_or ys at blank ≡ e
  pub moved : (k : ℕ) → at ≤ k → k < n → slice_index_or ys (suc k) blank ≡ slice_index_or xs k blank
  pub beyond : (k : ℕ) → n < k → slice_index_or ys k blank ≡ slice_index_or xs k blank

pub record ShiftedOut (xs : List Entry) (n at : ℕ) (ys : List Entry) : Type 0 where
  pub size : length ys ≡ length xs
  pub below : (k : ℕ) → k < at → slice_index_or ys k blank ≡ slice_index_or xs k blank
  pub moved : (k : ℕ) → at ≤ k → suc k < n → slice_index_or ys k blank ≡ slice_index_or xs (suc k) blank
  pub last : (k : ℕ) → suc k ≡ n → slice_index_or ys k blank ≡ blank
  pub beyond : (k : ℕ) → n ≤ k → slice_index_or ys k blank ≡ slice_index_or xs k blank
