-- Reading from the front of some words. Whatever cannot be read gives the reason.
--
-- Part A                 what was read, and the words behind it
-- on r f                 goes on with what was read, or keeps the reason
-- leading_number limit ws   the number that the first word is
-- closed a ws            a, if no word is left
-- one limit ws           the number that ws is
-- three a b c ws         the three numbers that ws are, each within its limit
use Rattle.std.specs.Prelude.{ℕ, List, [], ◌∷◌, Some, None, Ok, Err, Option, Result}
use Rattle.job.specs.declared.unreadable.Unreadable.{Unreadable}
use Rattle.job.specs.declared.unreadable.Unreadable.TheVariants.{MissingWord, ExtraWord, BadNumber}
use Rattle.job.specs.Numbers.{number}

pub data Part (A : Type 0) : Type 0 where
  part : A → List (List ℕ) → Part A

abbrev pub on : {A B : Type 0} → Result (Part A) Unreadable → (A → List (List ℕ) → Result B Unreadable) → Result B Unreadable
on (Ok (part a ws)) f = f a ws
on (Err e) f = Err e

abbrev pub counted : Option ℕ → List (List ℕ) → Result (Part ℕ) Unreadable
counted (Some n) ws = Ok (part n ws)
counted None ws = Err BadNumber

abbrev pub leading_number : ℕ → List (List ℕ) → Result (Part ℕ) Unreadable
leading_number limit [] = Err MissingWord
leading_number limit (w ∷ ws) = counted (number limit w) ws

abbrev pub closed : {A : Type 0} → A → List (List ℕ) → Result A Unreadable
closed a [] = Ok a
closed a (w ∷ ws) = Err ExtraWord

abbrev pub one : ℕ → List (List ℕ) → Result ℕ Unreadable
one limit ws = on (leading_number limit ws) closed

pub data Triple : Type 0 where
  triple : ℕ → ℕ → ℕ → Triple

abbrev pub three : ℕ → ℕ → ℕ → List (List ℕ) → Result Triple Unreadable
three a b c ws = on (leading_number a ws) (λ x xs. on (leading_number b xs) (λ y ys. on (leading_number c ys) (λ z zs. closed (triple x y z) zs)))
