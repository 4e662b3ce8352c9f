-- The console's gates as a list: places, and what each looks like on the desk.
use Rattle.std.proofs.Common.{◌≡◌, ℕ, ◌+◌, ◌<◌, ◌≤◌, Bool, true, false, cond, eqb, List, [], ◌∷◌, map, set, length, get_or, is_some, Some, Ok, Err, Result, sym, refl, ap, ◌∙◌, le-leb}
use Rattle.std.specs.List.{position, prefix_len, slice_get}
use Rattle.std.specs.Prelude.{not}
use Rattle.std.proofs.lemmas.List.{length-map, map-set}
use Rattle.gate.specs.declared.gate.Gate.{Gate}
use Rattle.std.proofs.lemmas.Option.{slice_get-get_or, slice_get-map}
use Rattle.std.proofs.lemmas.Bool.{lt-leb}
use Rattle.denials.specs.declared.denial.Denial.{Denial}
use Rattle.gate.specs.State.{State}
use Rattle.console.specs.declared.refusal.Fault.TheVariants.{OpenAlready, NinthGate}
use Rattle.console.specs.Replies.{Reply, unreadable, refused}
use Rattle.console.specs.Deeds.{Replies, deed_left}
use Rattle.job.specs.declared.command.Deed.{Deed}
use Rattle.console.specs.Desks.{Desk, desk, place_at, place_of, AtGate, Admits, Only, Opens}
use Rattle.console.specs.Piles.{Pile, pile_state}

prefix_len_map : {X Y : Type 0} (f : X → Y) (is : Y → Bool) (xs : List X) → prefix_len is (map f xs) ≡ prefix_len (λ x. is (f x)) xs
prefix_len_map f is [] = refl
prefix_len_map f is (x ∷ xs) = ap (λ n. cond (is (f x)) (1 + n) 0) (prefix_len_map f is xs)

pub position_map : {X Y : Type 0} (f : X → Y) (is : Y → Bool) (xs : List X) → position is (map f xs) ≡ position (λ x. is (f x)) xs
position_map f is xs =
    let before = prefix_len_map f (λ y. not (is y)) xs in
    let sized = length-map xs f in
    cc

-- the place of a number on the desk
pub place_on_desk : (n : ℕ) (gs : List (Gate Pile)) → place_at n (map pile_state gs) ≡ place_of n gs
place_on_desk n gs = position_map pile_state (λ g. eqb g.number n) gs

-- a deed at the current gate leaves every other gate as it was
pub at_state : (gs : List (Gate Pile)) (n : ℕ) (gate after : Gate Pile) (deed : Deed) (r : Reply) → n < length gs → gate ≡ get_or gs n gate → Replies deed (pile_state gate) r → pile_state after ≡ deed_left deed (pile_state gate) → AtGate (desk (map pile_state gs) n) deed r (desk (map pile_state (set gs n after)) n)
at_state gs n gate after deed r within read replies left =
    let here : slice_get gs n ≡ Some gate = slice_get-get_or gs n gate within ∙ ap Some (sym read) in
    rw (slice_get-map pile_state gs n, here, map-set pile_state gs n after, left) (replies, refl)

-- the ways through an opening
module _ (gs : List (Gate Pile)) (k n : ℕ) (made : Result State Denial) (r : Reply) (e : Desk) where
  abbrev before : Desk
  before = desk (map pile_state gs) k

  taken : is_some (place_at n (map pile_state gs)) ≡ is_some (place_of n gs)
  taken = ap is_some (place_on_desk n gs)

  pub opens_already : is_some (place_of n gs) ≡ true → Only before (unreadable OpenAlready) r e → Opens before n made r e
  opens_already used h = rw (taken, used) h

  pub opens_ninth : is_some (place_of n gs) ≡ false → 8 ≤ length gs → Only before (unreadable NinthGate) r e → Opens before n made r e
  opens_ninth unused full h = rw (taken, unused, length-map gs pile_state, le-leb 8 (length gs) full) h

  pub opens_denied : (x : Denial) → is_some (place_of n gs) ≡ false → length gs < 8 → made ≡ Err x → Only before (refused x) r e → Opens before n made r e
  opens_denied x unused room denied h = rw (taken, unused, length-map gs pile_state, lt-leb 8 (length gs) room, denied) h

  pub opens_made : (g : State) → is_some (place_of n gs) ≡ false → length gs < 8 → made ≡ Ok g → Admits before g r e → Opens before n made r e
  opens_made g unused room was h = rw (taken, unused, length-map gs pile_state, lt-leb 8 (length gs) room, was) h
