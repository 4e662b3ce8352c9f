-- Opening a gate: its sheets are filled from left to right, then its lowest book is stocked with the entries that it holds already.
--
-- filled xs ss          the serials on a sheet with xs after ss were added, or the first denial
-- standing_of n         the standing of an entry that is held already: rule for 1, else saying
-- entry_held h          the entry that h tells
-- stocked m hs          what a book that means m means after the entries hs were filed, or the first denial
-- shelf_means b         what a console's lowest book means
-- floor_means f         what a new lowest book means
-- sheet_at k ls         the serials of the layer k, counted from the left; none where there are fewer layers
-- both_filled ls        the serials on the sheets of the upper and the lower layer, or the first denial
-- opened n ls f hs      the state of the gate that `open` makes, or the denial
-- opened_by o           the same for the opening o
use Rattle.std.specs.Prelude.{ℕ, min, false, cond, List, [], ◌∷◌, Ok, Err, Result, ◌==◌, slice_index_or}
use Rattle.denials.specs.declared.denial.Denial.{Denial}
use Rattle.book.specs.declared.entry.Entry.{Entry}
use Rattle.book.specs.declared.entry.Standing.{Standing}
use Rattle.book.specs.declared.entry.Standing.TheVariants.{Rule, Saying}
use Rattle.records.specs.Card.{card_barred}
use Rattle.book.specs.Meaning.{Meaning, means, empty_book, file_answer, file_after}
use Rattle.book.specs.Recall.{recall_means}
use Rattle.book.specs.Sheet.{sheet_add_answer, sheet_add_after}
use Rattle.gate.specs.State.{State, new_gate}
use Rattle.job.specs.declared.command.Opening.{Opening}
use Rattle.job.specs.Books.{Floor, ledger, card, Held, held, sheets, floor_of, held_in}
use Rattle.job.specs.Words.{words}
use Rattle.console.specs.declared.shelf.Shelf.{Shelf}
use Rattle.console.specs.Shelves.{shelf_live, shelf_barred, shelf_free}

-- goes on unless the step was denied
abbrev pub unless_denied : {A : Type 0} → Result (Unit {0}) Denial → Result A Denial → Result A Denial
unless_denied (Ok u) next = next
unless_denied (Err d) next = Err d

abbrev pub filled : List ℕ → List ℕ → Result (List ℕ) Denial
filled xs [] = Ok xs
filled xs (s ∷ ss) = unless_denied (sheet_add_answer xs s) (filled (sheet_add_after xs s) ss)

abbrev pub standing_of : ℕ → Standing
standing_of n = cond (n == 1) Rule Saying

abbrev pub entry_held : Held → Entry
entry_held (held serial standing row) = record { serial = serial; standing = standing_of standing; row = row }

abbrev pub stocked : Meaning → List Held → Result Meaning Denial
stocked m [] = Ok m
stocked m (h ∷ hs) = unless_denied (file_answer m (entry_held h)) (stocked (file_after m (entry_held h)) hs)

abbrev pub shelf_means : Shelf → Meaning
shelf_means b = means (shelf_live b) (shelf_barred b) (shelf_free b)

abbrev pub floor_means : Floor → Meaning
floor_means (ledger n) = empty_book (λ s. false) (min n 1024)
floor_means card = empty_book card_barred 256

abbrev pub sheet_at : ℕ → List (List ℕ) → List ℕ
sheet_at k ls = slice_index_or ls k []

-- two serial lists, one above the other
abbrev pub pair_up : Result (List ℕ) Denial → Result (List ℕ) Denial → Result (List ℕ × List ℕ) Denial
pair_up (Err d) lower = Err d
pair_up (Ok xs) (Err d) = Err d
pair_up (Ok xs) (Ok ys) = Ok (xs, ys)

abbrev pub both_filled : List (List ℕ) → Result (List ℕ × List ℕ) Denial
both_filled ls = pair_up (filled [] (sheet_at 0 ls)) (filled [] (sheet_at 1 ls))

abbrev pub piled : ℕ → Result (List ℕ × List ℕ) Denial → Result Meaning Denial → Result State Denial
piled n (Err d) book = Err d
piled n (Ok p) (Err d) = Err d
piled n (Ok p) (Ok m) = Ok (new_gate n (recall_means p.0 (recall_means p.1 m)))

abbrev pub opened : ℕ → List (List ℕ) → Floor → List Held → Result State Denial
opened n ls f hs = piled n (both_filled ls) (stocked (floor_means f) hs)

abbrev pub opened_by : Opening → Result State Denial
opened_by o = opened o.gate (sheets o.layers) (floor_of o.ground) (held_in (words o.entries.now))
