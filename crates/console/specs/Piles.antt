-- The book of a console's gate: two recall layers, whose sheets may be empty, over a lowest book.
--
-- pile_live p, pile_barred p, pile_free p     what it means
-- pile_state g                            the state of a gate over it
use Rattle.std.specs.Prelude.{ℕ, Bool, Option}
use Rattle.book.specs.declared.entry.Entry.{Entry}
use Rattle.book.specs.declared.recall.Recall.{Recall}
use Rattle.book.specs.Recall.{recalled_live, recalled_barred}
use Rattle.book.specs.Sheet.{sheet_list}
use Rattle.gate.specs.declared.gate.Gate.{Gate}
use Rattle.gate.specs.State.{State, state_of}
use Rattle.console.specs.declared.shelf.Shelf.{Shelf}
use Rattle.console.specs.Shelves.{shelf_live, shelf_barred, shelf_free}

abbrev pub Pile : Type 0
Pile = Recall (Recall Shelf)

abbrev pub pile_live : Pile → ℕ → Option Entry
pile_live p = recalled_live (sheet_list p.sheet) (recalled_live (sheet_list p.below.sheet) (shelf_live p.below.below))

abbrev pub pile_barred : Pile → ℕ → Bool
pile_barred p = recalled_barred (sheet_list p.sheet) (recalled_barred (sheet_list p.below.sheet) (shelf_barred p.below.below))

abbrev pub pile_free : Pile → ℕ
pile_free p = shelf_free p.below.below

abbrev pub pile_state : Gate Pile → State
pile_state g = state_of pile_live pile_barred pile_free g
