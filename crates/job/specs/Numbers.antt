-- How a word is read as a number: decimal digits only, at least one, with any number of leading zeros.
--
-- digit c            c is one of the bytes '0' to '9'
-- IsDigit c          the same, as a fact
-- digits w           each byte of w is a digit
-- value_after n w     the value of the digits w that follow digits of value n
-- value w            the decimal value of the digits w
-- number limit w     the value of w, if w is a number of at most limit
-- Number limit w n   w is a number, n is its value, and n is at most limit
use Rattle.std.specs.Prelude.{◌≡◌, ℕ, ◌+◌, ◌-◌, ◌*◌, ◌<◌, ◌≤◌, Bool, true, false, cond, ◌&&◌, List, [], ◌∷◌, length, Some, None, Option, nat_le}
use Rattle.std.specs.List.{All}

abbrev pub digit : ℕ → Bool
digit c = nat_le 48 c && nat_le c 57

abbrev pub digits : List ℕ → Bool
digits [] = true
digits (c ∷ cs) = digit c && digits cs

abbrev pub value_after : ℕ → List ℕ → ℕ
value_after n [] = n
value_after n (c ∷ cs) = value_after (n * 10 + (c - 48)) cs

abbrev pub value : List ℕ → ℕ
value w = value_after 0 w

abbrev pub written : List ℕ → Bool
written [] = false
written (c ∷ cs) = digits (c ∷ cs)

abbrev pub number : ℕ → List ℕ → Option ℕ
number limit w = cond (written w && nat_le (value w) limit) (Some (value w)) None

abbrev pub IsDigit : ℕ → Type 0
IsDigit c = (48 ≤ c) × (c ≤ 57)

pub record Number (limit : ℕ) (w : List ℕ) (n : ℕ) : Type 0 where
  pub some : 0 < length w
  pub decimal : All IsDigit w
  pub is : n ≡ value w
  pub within : n ≤ limit
