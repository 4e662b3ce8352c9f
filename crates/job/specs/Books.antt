-- The book that `open` names: at most two layers `recall SERIAL .. over`, then `ledger RECORDS` or `card`, then perhaps `with SERIAL:STANDING:ROW ..`.
--
-- Floor                the lowest book
-- Held                 an entry that the lowest book holds: its serial, its standing and its row
-- listed ws            the serials that ws begin with
-- behind_over ws          the words behind `over`, where only serials stand before it
-- layer ws             the serials of the layer that ws begin with, if any
-- layers ws            the serials of each layer that ws begin with, two at most
-- floor ws             the lowest book that ws begin with
-- entry w              the entry that w is
-- held_in ws            the entries that ws begin with
-- entries ws           the entries behind `with`, none where nothing is left
-- sheets l, floor_of g  the values of a `Layers` and of a `Ground`
-- held_as e            the value of a book's `Entry`
use Rattle.std.specs.Prelude.{ℕ, Bool, true, false, cond, List, [], ◌∷◌, Some, None, Ok, Err, codes, Option, Result, ◌==◌}
use Rattle.std.specs.Str.{bytes_eq}
use Rattle.book.specs.declared.entry.Entry.{Entry}
use Rattle.book.specs.Standing.{standing_number}
use Rattle.job.specs.declared.command.Ground.{Ground}
use Rattle.job.specs.declared.command.Ground.TheVariants.{Ledger, Card}
use Rattle.job.specs.declared.command.Layers.{Layers}
use Rattle.job.specs.declared.command.Layers.TheVariants.{Bare, One, Two}
use Rattle.job.specs.declared.unreadable.Unreadable.{Unreadable}
use Rattle.job.specs.declared.unreadable.Unreadable.TheVariants.{MissingWord, ExtraWord, BadNumber, BadBook, BadEntry}
use Rattle.job.specs.Limits.{small_limit, record_limit, standing_limit}
use Rattle.job.specs.Numbers.{number}
use Rattle.job.specs.Operands.{Part, part, on, leading_number}
use Rattle.job.specs.Words.{front, behind, words}

pub data Floor : Type 0 where
  ledger : ℕ → Floor
  card : Floor

pub data Held : Type 0 where
  held : ℕ → ℕ → ℕ → Held

abbrev pub listing : Option ℕ → List ℕ → List ℕ
listing (Some n) ns = n ∷ ns
listing None ns = []

abbrev pub listed : List (List ℕ) → List ℕ
listed [] = []
listed (w ∷ ws) = listing (number small_limit w) (listed ws)

abbrev pub passing : Option ℕ → Result (List (List ℕ)) Unreadable → Result (List (List ℕ)) Unreadable
passing (Some n) r = r
passing None r = Err BadNumber

abbrev pub behind_over : List (List ℕ) → Result (List (List ℕ)) Unreadable
behind_over [] = Err MissingWord
behind_over (w ∷ ws) = cond (bytes_eq w (codes "over")) (Ok ws) (passing (number small_limit w) (behind_over ws))

abbrev pub recalling : List ℕ → Result (List (List ℕ)) Unreadable → Result (Option (Part (List ℕ))) Unreadable
recalling ns (Ok ws) = Ok (Some (part ns ws))
recalling ns (Err e) = Err e

abbrev pub layer : List (List ℕ) → Result (Option (Part (List ℕ))) Unreadable
layer [] = Ok None
layer (w ∷ ws) = cond (bytes_eq w (codes "recall")) (recalling (listed ws) (behind_over ws)) (Ok None)

-- goes on with a layer and the words below it, or with none
abbrev pub below : {A : Type 0} → Result (Option (Part (List ℕ))) Unreadable → Result A Unreadable → (List ℕ → List (List ℕ) → Result A Unreadable) → Result A Unreadable
below (Ok None) none some = none
below (Ok (Some (part ns ws))) none some = some ns ws
below (Err e) none some = Err e

abbrev pub layers : List (List ℕ) → Result (Part (List (List ℕ))) Unreadable
layers ws =
    below (layer ws) (Ok (part [] ws))
    (λ first xs. below (layer xs) (Ok (part (first ∷ []) xs))
    (λ second ys. Ok (part (first ∷ second ∷ []) ys)))

abbrev pub floor : List (List ℕ) → Result (Part Floor) Unreadable
floor [] = Err MissingWord
floor (w ∷ ws) =
    cond (bytes_eq w (codes "card")) (Ok (part card ws)) (
    cond (bytes_eq w (codes "ledger")) (on (leading_number record_limit ws) (λ n ns. Ok (part (ledger n) ns)))
    (Err BadBook))

abbrev pub given : {A : Type 0} → Option ℕ → (ℕ → Option A) → Option A
given (Some n) f = f n
given None f = None

-- the three parts of an entry stand before, between and behind two colons, 58
abbrev pub entry : List ℕ → Option Held
entry w =
    given (number small_limit (front 58 w)) (λ serial.
    given (number standing_limit (front 58 (behind 58 w))) (λ standing.
    given (number small_limit (behind 58 (behind 58 w))) (λ row.
    cond (standing == 0) None (Some (held serial standing row)))))

abbrev pub holding : Option Held → List Held → List Held
holding (Some h) hs = h ∷ hs
holding None hs = []

abbrev pub held_in : List (List ℕ) → List Held
held_in [] = []
held_in (w ∷ ws) = holding (entry w) (held_in ws)

abbrev pub also : Option Held → Bool → Bool
also (Some h) b = b
also None b = false

-- each of the words is an entry
abbrev pub all_held : List (List ℕ) → Bool
all_held [] = true
all_held (w ∷ ws) = also (entry w) (all_held ws)

abbrev pub some_held : List (List ℕ) → Result (List Held) Unreadable
some_held [] = Err MissingWord
some_held (w ∷ ws) = cond (all_held (w ∷ ws)) (Ok (held_in (w ∷ ws))) (Err BadEntry)

abbrev pub entries : List (List ℕ) → Result (List Held) Unreadable
entries [] = Ok []
entries (w ∷ ws) = cond (bytes_eq w (codes "with")) (some_held ws) (Err ExtraWord)

abbrev pub sheets : Layers → List (List ℕ)
sheets Bare = []
sheets (One first) = listed (words first.now) ∷ []
sheets (Two first second) = listed (words first.now) ∷ listed (words second.now) ∷ []

abbrev pub floor_of : Ground → Floor
floor_of (Ledger n) = ledger n
floor_of Card = card

abbrev pub held_as : Entry → Held
held_as e = held e.serial (standing_number e.standing) e.row
