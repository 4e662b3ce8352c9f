-- some_none, some_same     an answer is not both an entry and nothing, nor two entries
use Rattle.std.specs.Prelude.{◌≡◌, ℕ, Some, None, Option, ◌≢◌}
use Rattle.std.proofs.Common.{arith}

pub some_none : {X : Type 0} (o : Option X) (x : X) → o ≡ Some x → o ≢ None
some_none o x p q = let z : ◌≡◌ {A = ℕ} 0 1 = cc in omega arith

pub some_same : {X : Type 0} (o : Option X) (x y : X) → o ≡ Some x → o ≡ Some y → x ≡ y
some_same o x y p q = cc
