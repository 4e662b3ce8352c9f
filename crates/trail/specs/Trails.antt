-- Trails: entries added at the end of a table of places.
--
-- entries_of t             the entries of the trail t, in order of arrival
-- capacity_of t            how many entries it can hold
-- SamePlaces r s           r and s lend the same slice, of one length
-- pushed limit xs x        the entries after adding x
-- push_answer limit xs x   what adding x answers where `limit` entries fit: done, or x itself where there is no place left
use Rattle.std.specs.Prelude.{◌≡◌, ℕ, cond, List, [], ◌∷◌, ◌++◌, length, take, Ok, Err, Result, nat_lt}
use Rattle.std.specs.Borrow.{MutBor}
use Rattle.trail.specs.declared.blank.Blank.{Ghosts}
use Rattle.trail.specs.declared.trail.Trail.{Trail}
use Rattle.trail.specs.Places.{capacity}

abbrev pub entries_of : {T : Type 0} {b : Ghosts T} → Trail T b → List T
entries_of t = take t.len t.places.now

abbrev pub capacity_of : {T : Type 0} {b : Ghosts T} → Trail T b → ℕ
capacity_of t = capacity t.places.now

pub record SamePlaces {T : Type 0} (r s : MutBor (List T)) : Type 0 where
  pub lender : s.ghost_name ≡ r.ghost_name
  pub size : length s.now ≡ length r.now

abbrev pub pushed : {T : Type 0} → ℕ → List T → T → List T
pushed limit xs x = cond (nat_lt (length xs) limit) (xs ++ (x ∷ [])) xs

abbrev pub push_answer : {T : Type 0} → ℕ → List T → T → Result (Unit {0}) T
push_answer limit xs x = cond (nat_lt (length xs) limit) (Ok tt) (Err x)
