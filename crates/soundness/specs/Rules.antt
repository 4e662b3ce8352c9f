-- The rules of the tableau as a relation.
--
-- line code a b c            the line with this code and these operands
-- HasFact b k sign n w       the fact number k of the branch b: the statement row n is true, or false, at the world w
-- HasLink b k sign n w v     the link number k: the pair (w, v) is, or is not, one of the principal row n
-- Allows g b l e             on the branch b the line l is allowed, and its effect is e; one case for each rule, two for the rule that takes either side
-- Completes g ok p ls        the lines ls complete the proof that has come as far as p: each is allowed, the last and none before completes it, and `ok` holds after each
use Rattle.std.specs.Prelude.{◌≡◌, ℕ, ◌+◌, ◌<◌, List, [], ◌∷◌, Some}
use Rattle.std.specs.List.{slice_get}
use Rattle.terms.specs.declared.row.PrincipalRow.TheVariants.{Both, Quoting}
use Rattle.terms.specs.declared.row.StatementRow.TheVariants.{Not, And, Says, SpeaksFor}
use Rattle.book.specs.declared.entry.Standing.TheVariants.{Rule, Saying}
use Rattle.rules.specs.declared.branch.Side.TheVariants as sides
use Rattle.rules.specs.declared.branch.Sign.{Sign}
use Rattle.rules.specs.declared.branch.Sign.TheVariants.{True, False}
use Rattle.rules.specs.declared.line.Line.{Line}
use Rattle.rules.specs.Branches.{fact, link, other, Branch, Effect, adds, forks, closes, Progress, going, complete, moved}
use Rattle.soundness.specs.Given.{Given, StatementIs, PrincipalIs, Live}

abbrev pub line : ℕ → ℕ → ℕ → ℕ → Line
line code a b c = record { code = code; a = a; b = b; c = c }

abbrev pub HasFact : Branch → ℕ → Sign → ℕ → ℕ → Type 0
HasFact b k sign n w = slice_get b.facts k ≡ Some (fact sign n w)

abbrev pub HasLink : Branch → ℕ → Sign → ℕ → ℕ → ℕ → Type 0
HasLink b k sign n w v = slice_get b.links k ≡ Some (link sign n w v)

pub data Allows (g : Given) (b : Branch) (l : Line) (e : Effect) : Type 0 where
  -- 1: a live rule holds at any world of the branch
  cite_rule : (serial n w : ℕ) →
      l ≡ line 1 serial w 0 → w < b.worlds → Live g Rule serial n →
      e ≡ adds 0 (fact True n w ∷ []) [] → Allows g b l e
  -- 2: a live saying holds at the start
  cite_saying : (serial n : ℕ) →
      l ≡ line 2 serial 0 0 → Live g Saying serial n →
      e ≡ adds 0 (fact True n 0 ∷ []) [] → Allows g b l e
  -- 3: not s turns the sign
  by_not : (k n s w : ℕ) (sign : Sign) →
      l ≡ line 3 k 0 0 → HasFact b k sign n w → StatementIs g n (Not s) →
      e ≡ adds 0 (fact (other sign) s w ∷ []) [] → Allows g b l e
  -- 4: s and t true gives both
  and_true : (k n s t w : ℕ) →
      l ≡ line 4 k 0 0 → HasFact b k True n w → StatementIs g n (And s t) →
      e ≡ adds 0 (fact True s w ∷ fact True t w ∷ []) [] → Allows g b l e
  -- 5: s and t false forks
  and_false : (k n s t w : ℕ) →
      l ≡ line 5 k 0 0 → HasFact b k False n w → StatementIs g n (And s t) →
      e ≡ forks (sides.Fact (fact False s w)) (sides.Fact (fact False t w)) → Allows g b l e
  -- 6: what P says at w holds at every world that P links to w
  says_true : (k m n p s w v : ℕ) →
      l ≡ line 6 k m 0 → HasFact b k True n w → StatementIs g n (Says p s) → HasLink b m True p w v →
      e ≡ adds 0 (fact True s v ∷ []) [] → Allows g b l e
  -- 7: what P does not say at w fails at some world that P links to w
  says_false : (k n p s w : ℕ) →
      l ≡ line 7 k 0 0 → HasFact b k False n w → StatementIs g n (Says p s) →
      e ≡ adds 1 (fact False s b.worlds ∷ []) (link True p w b.worlds ∷ []) → Allows g b l e
  -- 8: P speaks for Q, so a pair of Q is one of P
  speaks_for_true : (k m n p q w v u : ℕ) →
      l ≡ line 8 k m 0 → HasFact b k True n w → StatementIs g n (SpeaksFor p q) → HasLink b m True q v u →
      e ≡ adds 0 [] (link True p v u ∷ []) → Allows g b l e
  -- 9: P does not speak for Q, so some pair of Q is none of P
  speaks_for_false : (k n p q w : ℕ) →
      l ≡ line 9 k 0 0 → HasFact b k False n w → StatementIs g n (SpeaksFor p q) →
      e ≡ adds 2 [] (link True q b.worlds (b.worlds + 1) ∷ link False p b.worlds (b.worlds + 1) ∷ []) → Allows g b l e
  -- 10: a pair of P & Q is one of P or one of Q
  both_linked : (k n p q w v : ℕ) →
      l ≡ line 10 k 0 0 → HasLink b k True n w v → PrincipalIs g n (Both p q) →
      e ≡ forks (sides.Link (link True p w v)) (sides.Link (link True q w v)) → Allows g b l e
  -- 11: a pair of P | Q goes by P to some world and on by Q
  quoting_linked : (k n p q w v : ℕ) →
      l ≡ line 11 k 0 0 → HasLink b k True n w v → PrincipalIs g n (Quoting p q) →
      e ≡ adds 1 [] (link True p w b.worlds ∷ link True q b.worlds v ∷ []) → Allows g b l e
  -- 12: a pair of P is one of P & Q, and so is a pair of Q
  into_both_left : (k n p q w v : ℕ) →
      l ≡ line 12 k n 0 → HasLink b k True p w v → PrincipalIs g n (Both p q) →
      e ≡ adds 0 [] (link True n w v ∷ []) → Allows g b l e
  into_both_right : (k n p q w v : ℕ) →
      l ≡ line 12 k n 0 → HasLink b k True q w v → PrincipalIs g n (Both p q) →
      e ≡ adds 0 [] (link True n w v ∷ []) → Allows g b l e
  -- 13: a pair of P and on by a pair of Q is one of P | Q
  into_quoting : (k m n p q w u v : ℕ) →
      l ≡ line 13 k m n → HasLink b k True p w u → HasLink b m True q u v → PrincipalIs g n (Quoting p q) →
      e ≡ adds 0 [] (link True n w v ∷ []) → Allows g b l e
  -- 14: a statement is not both true and false at a world
  facts_clash : (k m n w : ℕ) →
      l ≡ line 14 k m 0 → HasFact b k True n w → HasFact b m False n w →
      e ≡ closes → Allows g b l e
  -- 15: a pair is not both one of a principal and none
  links_clash : (k m n w v : ℕ) →
      l ≡ line 15 k m 0 → HasLink b k True n w v → HasLink b m False n w v →
      e ≡ closes → Allows g b l e

abbrev pub Completes : Given → (Progress → Type 0) → Progress → List Line → Type 0
Completes g ok complete [] = Unit {0}
Completes g ok (going b fs) [] = ⊥
Completes g ok complete (l ∷ ls) = ⊥
Completes g ok (going b fs) (l ∷ ls) =
    (e : Effect) × (Allows g b l e × (ok (moved b fs e) × Completes g ok (moved b fs e) ls))
