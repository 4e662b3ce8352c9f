-- The console as a whole: its gates, and what each line does.
--
-- Desk                      the states of the open gates, in the order of opening, and which is current
-- desk_of c                 the desk of the console c
-- place_of n gs             where the gate with the number n stands
-- Admits d g r e            a gate in the state g was taken in and made current, or there is no memory and nothing changed
-- Opens d n opened r e      what `open` answers and leaves
-- turn_reply d n, turned d n    what `at` answers and leaves
-- AtGate d deed r e         what a deed at the current gate answers and leaves
-- naming f x y              what is to be named, by its form and operands
-- Did d said r e            what a command answers and leaves
use Rattle.std.specs.Prelude.{◌≡◌, ℕ, cond, List, [], ◌∷◌, ◌++◌, map, length, is_some, Some, None, Ok, Err, vec_items, Option, Result, nat_eq, nat_le, slice_set}
use Rattle.std.specs.List.{position, slice_get}
use Rattle.denials.specs.declared.denial.Denial.{Denial}
use Rattle.gate.specs.declared.gate.Gate.{Gate}
use Rattle.gate.specs.State.{State}
use Rattle.job.specs.Commands.{Said, opens, turns, principal, statement, files, strikes, lists, Heard, silent, command}
use Rattle.job.specs.Commands.{unreadable as misread}
use Rattle.console.specs.declared.answer.Answer.{Answer}
use Rattle.console.specs.declared.refusal.Fault.TheVariants.{Line, NoGate, OpenAlready, NotOpen, NinthGate}
use Rattle.console.specs.declared.refusal.Refusal.{Refusal}
use Rattle.console.specs.declared.console.Console.{Console}
use Rattle.job.specs.declared.command.Deed.{Deed}
use Rattle.job.specs.declared.command.Naming.{Naming}
use Rattle.job.specs.declared.command.Deed.TheVariants.{Principal, Statement, File, Strike, List as Listing}
use Rattle.console.specs.Deeds.{reply, Replies, deed_left, OutOfMemory}
use Rattle.console.specs.Openings.{opened}
use Rattle.console.specs.Piles.{Pile, pile_state}
use Rattle.console.specs.Replies.{Reply, opened_gate, at_gate, row, filed, struck, refused, unreadable, live}

pub record Desk : Type 0 where
  pub gates : List State
  pub current : ℕ

abbrev pub desk : List State → ℕ → Desk
desk gs n = record { gates = gs; current = n }

abbrev pub desk_of : Console → Desk
desk_of c = desk (map pile_state (vec_items c.gates)) c.current

abbrev pub place_of : ℕ → List (Gate Pile) → Option ℕ
place_of n gs = position (λ g. nat_eq g.number n) gs

abbrev pub place_at : ℕ → List State → Option ℕ
place_at n gs = position (λ g. nat_eq g.number n) gs

abbrev pub Admits : Desk → State → Reply → Desk → Type 0
Admits d g (opened_gate n) e = (n ≡ g.number) × (e ≡ desk (d.gates ++ (g ∷ [])) (length d.gates))
Admits d g (at_gate n) e = ⊥
Admits d g (row n) e = ⊥
Admits d g filed e = ⊥
Admits d g struck e = ⊥
Admits d g (refused x) e = ⊥
Admits d g (unreadable f) e = OutOfMemory f × (e ≡ d)
Admits d g (live es) e = ⊥

-- an answer that leaves everything as it was
abbrev pub Only : Desk → Reply → Reply → Desk → Type 0
Only d said r e = (r ≡ said) × (e ≡ d)

abbrev pub Makes : Desk → Result State Denial → Reply → Desk → Type 0
Makes d (Ok g) r e = Admits d g r e
Makes d (Err x) r e = Only d (refused x) r e

abbrev pub Opens : Desk → ℕ → Result State Denial → Reply → Desk → Type 0
Opens d n made r e =
    cond (is_some (place_at n d.gates)) (Only d (unreadable OpenAlready) r e)
    (cond (nat_le 8 (length d.gates)) (Only d (unreadable NinthGate) r e) (Makes d made r e))

abbrev pub turn_to : ℕ → Option ℕ → Reply
turn_to n None = unreadable NotOpen
turn_to n (Some k) = at_gate n

abbrev pub turned_to : Desk → Option ℕ → Desk
turned_to d None = d
turned_to d (Some k) = desk d.gates k

abbrev pub turn_reply : Desk → ℕ → Reply
turn_reply d n = turn_to n (place_at n d.gates)

abbrev pub turned : Desk → ℕ → Desk
turned d n = turned_to d (place_at n d.gates)

abbrev pub AtState : Desk → Deed → Option State → Reply → Desk → Type 0
AtState d deed None r e = Only d (unreadable NoGate) r e
AtState d deed (Some g) r e = Replies deed g r × (e ≡ desk (slice_set d.gates d.current (deed_left deed g)) d.current)

abbrev pub AtGate : Desk → Deed → Reply → Desk → Type 0
AtGate d deed r e = AtState d deed (slice_get d.gates d.current) r e

abbrev pub naming : ℕ → ℕ → ℕ → Naming
naming f x y = record { form = f; x = x; y = y }

abbrev pub Did : Desk → Said → Reply → Desk → Type 0
Did d (opens n ls f hs) r e = Opens d n (opened n ls f hs) r e
Did d (turns n) r e = (r ≡ turn_reply d n) × (e ≡ turned d n)
Did d (principal f x y) r e = AtGate d (Principal (naming f x y)) r e
Did d (statement f x y) r e = AtGate d (Statement (naming f x y)) r e
Did d (files serial standing n) r e = AtGate d (File serial standing n) r e
Did d (strikes serial) r e = AtGate d (Strike serial) r e
Did d lists r e = AtGate d Listing r e

abbrev pub answered_as : Option (Result Answer Refusal) → Option Reply
answered_as None = None
answered_as (Some r) = Some (reply r)

abbrev pub Heeded : Desk → Heard → Option Reply → Desk → Type 0
Heeded d silent None e = e ≡ d
Heeded d silent (Some r) e = ⊥
Heeded d (misread why) None e = ⊥
Heeded d (misread why) (Some r) e = Only d (unreadable (Line why)) r e
Heeded d (command c) None e = ⊥
Heeded d (command c) (Some r) e = Did d c r e
