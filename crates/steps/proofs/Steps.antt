-- One line: its move finds room where the places of its rule are free.
use Rattle.std.proofs.Common.{◌≡◌, ℕ, true, List, Some, Ok, Err, Result, sym, ap, ◌∙◌, OnErr}
use Rattle.rules.specs.declared.branch.Fork.{Fork}
use Rattle.rules.specs.declared.line.Line.{Line}
use Rattle.rules.specs.declared.moves.Move.{Move}
use Rattle.rules.specs.declared.table.Shape.{Shape}
use Rattle.rules.specs.Branches.{Branch}
use Rattle.rules.specs.Fits.{effect}
use Rattle.rules.specs.Shapes.{shaped, takes}
use Rattle.soundness.specs.Given.{Given}
use Rattle.soundness.specs.Walking.{Limits, Room, roomy, sizes, line_move}
use Rattle.soundness.proofs.Exactness.{takes_up}
use Rattle.soundness.proofs.Rooms.{room_parts}

pub room_to_move : (lim : Limits) (b : Branch) (fs : List Fork) (g : Given) (line : Line) (n : ℕ) (s : Shape) (m : Move) → shaped line ≡ Some s → line_move g b s line n ≡ Ok m → roomy lim b fs (takes s.rule) ≡ true → Room lim b fs (sizes (effect m))
room_to_move lim b fs g line n s m shapes moves free =
    room_parts lim b fs (sizes (effect m)) (ap (roomy lim b fs) (sym (takes_up g b line s m n shapes moves)) ∙ free)

-- what holds at all holds where there is an error
pub at_error : {T E P : Type 0} (r : Result T E) → P → OnErr r P
at_error (Ok x) p = tt
at_error (Err e) p = p
