-- What a console's lowest book means.
--
-- shelf_live b s              its live entry under the serial s
-- shelf_barred b s            whether it bars the serial s
-- shelf_free b                its free places
use Rattle.std.specs.Prelude.{ℕ, ◌-◌, Bool, false, Option}
use Rattle.book.specs.declared.entry.Entry.{Entry}
use Rattle.records.specs.Card.{card_live, card_barred, card_free, card_orderly}
use Rattle.book.specs.Live.{Orderly}
use Rattle.records.specs.Orderly.{kept_orderly}
use Rattle.records.specs.Records.{held}
use Rattle.console.specs.declared.shelf.Shelf.{Shelf}
use Rattle.console.specs.declared.shelf.Shelf.TheVariants.{Ledger, Card}

abbrev pub shelf_live : Shelf → ℕ → Option Entry
shelf_live (Ledger l) = held l.records l.count
shelf_live (Card c) = card_live c.cards

abbrev pub shelf_barred : Shelf → ℕ → Bool
shelf_barred (Ledger l) = λ s. false
shelf_barred (Card c) = card_barred

abbrev pub shelf_free : Shelf → ℕ
shelf_free (Ledger l) = l.size - l.count
shelf_free (Card c) = card_free c.cards

pub shelf_orderly : (b : Shelf) → Orderly (shelf_live b)
shelf_orderly (Ledger l) = kept_orderly l.records l.size l.count l.sound.kept
shelf_orderly (Card c) = card_orderly c.cards c.sound
