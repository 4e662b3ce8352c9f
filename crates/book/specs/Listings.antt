-- The live entries of a book as a list.
--
-- gathered live s n     the live entries among the n serials from s on, in rising order
-- live_above live s     the live entries above serial s, in rising order
-- all_live live         all live entries in rising serial order
use Rattle.std.specs.Prelude.{ℕ, zero, suc, ◌-◌, List, [], ◌∷◌, Some, None, Option}
use Rattle.book.specs.declared.entry.Entry.{Entry}

abbrev pub before : Option Entry → List Entry → List Entry
before None es = es
before (Some e) es = e ∷ es

unfoldable pub gathered : (ℕ → Option Entry) → ℕ → ℕ → List Entry
gathered live s zero = []
gathered live s (suc n) = before (live s) (gathered live (suc s) n)

abbrev pub live_above : (ℕ → Option Entry) → ℕ → List Entry
live_above live s = gathered live (suc s) (65535 - s)

abbrev pub all_live : (ℕ → Option Entry) → List Entry
all_live live = gathered live 1 65535
