-- entries_left live it     the entries that the iterator it has still to give, over a book whose live entries are live
use Rattle.std.specs.Prelude.{ℕ, List, Option}
use Rattle.book.specs.declared.entry.Entry.{Entry}
use Rattle.book.specs.declared.entries.Entries.{Entries}
use Rattle.book.specs.Listings.{live_above}

abbrev pub entries_left : {X : Type 0} → (X → ℕ → Option Entry) → Entries X → List Entry
entries_left live it = live_above (live it.book.now) it.after
