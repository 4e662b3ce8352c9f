-- blank                 the record of an unused place
-- Orderly live          nothing is live at serial 0 or above 65,535, and an entry found under a serial bears it
-- first_from live s n   the first live entry among the n serials from s on
-- next_after live s     the live entry with the lowest serial above s, up to 65,535
-- Follows live s e      e is that entry, in words: live, above s, and nothing is live between
-- Next live s answer    what comes next after s, in words: an entry that follows, or nothing live above
use Rattle.std.specs.Prelude.{◌≡◌, ℕ, zero, suc, ◌-◌, ◌<◌, Some, None, Option}
use Rattle.book.specs.declared.entry.Entry.{Entry}
use Rattle.book.specs.declared.entry.Standing.TheVariants.{Rule}

abbrev pub blank : Entry
blank = record { serial = 0; standing = Rule; row = 0 }

pub record Orderly (live : ℕ → Option Entry) : Type 0 where
  pub zero_free : live 0 ≡ None
  pub ends : (s : ℕ) → 65535 < s → live s ≡ None
  pub bears : (s : ℕ) (e : Entry) → live s ≡ Some e → e.serial ≡ s

abbrev pub or_else : Option Entry → Option Entry → Option Entry
or_else None other = other
or_else (Some e) other = Some e

abbrev pub first_from : (ℕ → Option Entry) → ℕ → ℕ → Option Entry
first_from live s zero = None
first_from live s (suc n) = or_else (live s) (first_from live (suc s) n)

abbrev pub next_after : (ℕ → Option Entry) → ℕ → Option Entry
next_after live s = first_from live (suc s) (65535 - s)

pub record Follows (live : ℕ → Option Entry) (s : ℕ) (e : Entry) : Type 0 where
  pub above : s < e.serial
  pub found : live e.serial ≡ Some e
  pub between : (t : ℕ) → s < t → t < e.serial → live t ≡ None

abbrev pub Next : (ℕ → Option Entry) → ℕ → Option Entry → Type 0
Next live s None = (t : ℕ) → s < t → live t ≡ None
Next live s (Some e) = Follows live s e
