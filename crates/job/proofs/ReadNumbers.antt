-- Words read as numbers are numbers: what each reading of `Operands` can give. Assumes nothing.
use Rattle.std.proofs.Common.{◌≡◌, ℕ, List, [], ◌∷◌, Some, None, Ok, Err, Option, Result, refl}
use Rattle.job.specs.declared.unreadable.Unreadable.{Unreadable}
use Rattle.job.specs.Numbers.{number, Number}
use Rattle.job.specs.Operands.{Part, part, Triple, triple, on, counted, leading_number, closed, one, three}
use Rattle.job.proofs.Values.{number_means}

pub data First (limit : ℕ) : List (List ℕ) → Result (Part ℕ) Unreadable → Type 0 where
  first : {w : List ℕ} {ws : List (List ℕ)} {n : ℕ} → Number limit w n → First limit (w ∷ ws) (Ok (part n ws))
  no_first : {ws : List (List ℕ)} {e : Unreadable} → First limit ws (Err e)

first_counted : (limit : ℕ) (w : List ℕ) (ws : List (List ℕ)) (o : Option ℕ) → number limit w ≡ o → First limit (w ∷ ws) (counted o ws)
first_counted limit w ws (Some n) e = first (number_means limit w n e)
first_counted limit w ws None e = no_first

pub first_view : (limit : ℕ) (ws : List (List ℕ)) → First limit ws (leading_number limit ws)
first_view limit [] = no_first
first_view limit (w ∷ ws) = first_counted limit w ws (number limit w) refl

pub data One (limit : ℕ) : List (List ℕ) → Result ℕ Unreadable → Type 0 where
  the_one : {w : List ℕ} {n : ℕ} → Number limit w n → One limit (w ∷ []) (Ok n)
  no_one : {ws : List (List ℕ)} {e : Unreadable} → One limit ws (Err e)

one_closed : {limit n : ℕ} {w : List ℕ} → Number limit w n → (ws : List (List ℕ)) → One limit (w ∷ ws) (closed n ws)
one_closed h [] = the_one h
one_closed h (w ∷ ws) = no_one

one_from : {limit : ℕ} {ws : List (List ℕ)} {r : Result (Part ℕ) Unreadable} → First limit ws r → One limit ws (on r closed)
one_from (first {ws} h) = one_closed h ws
one_from no_first = no_one

pub one_view : (limit : ℕ) (ws : List (List ℕ)) → One limit ws (one limit ws)
one_view limit ws = one_from (first_view limit ws)

pub data Three (a b c : ℕ) : List (List ℕ) → Result Triple Unreadable → Type 0 where
  the_three : {x y z : List ℕ} {l m n : ℕ} → Number a x l → Number b y m → Number c z n → Three a b c (x ∷ y ∷ z ∷ []) (Ok (triple l m n))
  no_three : {ws : List (List ℕ)} {e : Unreadable} → Three a b c ws (Err e)

module _ {a b c : ℕ} where
  third_closed : {x y z : List ℕ} {l m n : ℕ} → Number a x l → Number b y m → Number c z n → (ws : List (List ℕ)) → Three a b c (x ∷ y ∷ z ∷ ws) (closed (triple l m n) ws)
  third_closed f g h [] = the_three f g h
  third_closed f g h (w ∷ ws) = no_three

  third : {x y : List ℕ} {l m : ℕ} {ws : List (List ℕ)} {r : Result (Part ℕ) Unreadable} → Number a x l → Number b y m → First c ws r → Three a b c (x ∷ y ∷ ws) (on r (λ n ns. closed (triple l m n) ns))
  third f g (first {ws} h) = third_closed f g h ws
  third f g no_first = no_three

  second : {x : List ℕ} {l : ℕ} {ws : List (List ℕ)} {r : Result (Part ℕ) Unreadable} → Number a x l → First b ws r → Three a b c (x ∷ ws) (on r (λ m ms. on (leading_number c ms) (λ n ns. closed (triple l m n) ns)))
  second f (first {ws} g) = third f g (first_view c ws)
  second f no_first = no_three

  three_from : {ws : List (List ℕ)} {r : Result (Part ℕ) Unreadable} → First a ws r → Three a b c ws (on r (λ l ls. on (leading_number b ls) (λ m ms. on (leading_number c ms) (λ n ns. closed (triple l m n) ns))))
  three_from (first {ws} f) = second f (first_view b ws)
  three_from no_first = no_three

pub three_view : (a b c : ℕ) (ws : List (List ℕ)) → Three a b c ws (three a b c ws)
three_view a b c ws = three_from (first_view a ws)
