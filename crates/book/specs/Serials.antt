-- on xs s             whether serial s is on a sheet of the serials xs
-- SheetSound xs n     what a sheet keeps true of its places, of which the first n are in use: there are 64, and 0 is not on it
use Rattle.std.specs.Prelude.{◌≡◌, ℕ, ◌≤◌, Bool, false, List, length, take, ◌==◌}
use Rattle.std.specs.List.{list_any}

abbrev pub on : List ℕ → ℕ → Bool
on xs s = list_any (λ x. x == s) xs

pub record SheetSound (xs : List ℕ) (n : ℕ) : Type 0 where
  pub room : length xs ≡ 64
  pub fits : n ≤ 64
  pub numbered : on (take n xs) 0 ≡ false
