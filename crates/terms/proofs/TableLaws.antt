-- Putting a row in keeps what always holds of a table.
use Rattle.std.proofs.Common.{◌≡◌, ℕ, ◌<◌, ◌≤◌, Bool, true, false, cond, ltb, List, [], ◌∷◌, ◌++◌, length, IfOk, Some, None, Option, sym, ap, ◌∙◌, subst, inl, inr, arith}
use Rattle.std.specs.List.{position, position_or_len, slice_get}
use Rattle.std.proofs.lemmas.Bool.Decides.{nat_tests}
use Rattle.std.proofs.lemmas.Grind.{common_steps}
use Rattle.std.proofs.lemmas.List.Sums.{fails_before_first}
use Rattle.std.proofs.lemmas.Option.{get_or_from_slice_get, slice_get_within}
use Rattle.std.proofs.lemmas.Bool.{cond_both, true≢false}
use Rattle.terms.specs.Rows.{Determined}
use Rattle.terms.specs.Naming.{same, put_after, read_principal, read_statement}
use Rattle.terms.specs.Tables.{Distinct, Every, principal_needs, statement_needs, principals_needed}
use Rattle.terms.proofs.Nths.{nth_some, nth_push}

-- a row has the same form and operands as itself, and as no other
pub same_refl : {R : Type 0} (form x y : R → ℕ) (r : R) → same form x y r r ≡ true
same_refl form x y r = grind (arith, common_steps)

pub same_is : {R : Type 0} (form x y : R → ℕ) → Determined form x y → (a b : R) → same form x y a b ≡ true → a ≡ b
same_is form x y determined a b e = grind (arith, common_steps, determined)

-- what the search has not found stands nowhere
past_all : (n m : ℕ) → cond (ltb n m) (Some n) None ≡ None → m ≤ n
past_all n m e = grind (arith, nat_tests)

pub none_past : {R : Type 0} (is : R → Bool) (rows : List R) → position is rows ≡ None → length rows ≤ position_or_len is rows
none_past is rows none = past_all (position_or_len is rows) (length rows) none

pub absent : {R : Type 0} (is : R → Bool) (rows : List R) (i : ℕ) (r : R) → position is rows ≡ None → slice_get rows i ≡ Some r → is r ≡ false
absent is rows i r none e =
    let before : i < position_or_len is rows = omega (arith, slice_get_within rows i r e, none_past is rows none) in
    ap is (sym (get_or_from_slice_get rows i r r e)) ∙ fails_before_first is rows i r before

-- one more row
distinct_push : {R : Type 0} (rows : List R) (r : R) → Distinct rows → ((i : ℕ) → slice_get rows i ≡ Some r → ⊥) → Distinct (rows ++ (r ∷ []))
distinct_push rows r distinct new i j h =
    let first = nth_some (rows ++ (r ∷ [])) i h.0 in
    let second : slice_get (rows ++ (r ∷ [])) j ≡ Some first.0 = sym h.1 ∙ first.1 in
    elim (nth_push rows r i first.0 first.1) [
      | inl old ↦ elim (nth_push rows r j first.0 second) [
        | inl old' ↦ distinct i j (slice_get_within rows i first.0 old, old ∙ sym old')
        | inr last ↦ absurd (new i (old ∙ ap Some last.1))
      ]
      | inr last ↦ elim (nth_push rows r j first.0 second) [
        | inl old ↦ absurd (new j (old ∙ ap Some last.1))
        | inr last' ↦ last.0 ∙ sym last'.0
      ]
    ]

pub every_push : {R : Type 0} (P : ℕ → R → Type 0) (rows : List R) (r : R) → Every P rows → P (length rows) r → Every P (rows ++ (r ∷ []))
every_push P rows r every here n s e =
    elim (nth_push rows r n s e) [
      | inl old ↦ every n s old
      | inr last ↦ subst (λ k. P k s) (sym last.0) (subst (λ q. P (length rows) q) (sym last.1) here)
    ]

pub distinct_new : {R : Type 0} (form x y : R → ℕ) (rows : List R) (r : R) → position (same form x y r) rows ≡ None → Distinct rows → Distinct (rows ++ (r ∷ []))
distinct_new form x y rows r none distinct =
    distinct_push rows r distinct (λ i e. true≢false (sym (same_refl form x y r) ∙ absent (same form x y r) rows i r none e))

pub distinct_put : {R : Type 0} (form x y : R → ℕ) (limit : ℕ) (rows : List R) (r : R) (at : Option ℕ) → position (same form x y r) rows ≡ at → Distinct rows → Distinct (put_after limit rows r at)
distinct_put form x y limit rows r (Some n) found distinct = distinct
distinct_put form x y limit rows r None found distinct =
    cond_both (ltb (length rows) limit) _ _ Distinct (λ _. distinct_new form x y rows r found distinct) (λ _. distinct)

pub every_put : {R : Type 0} (P : ℕ → R → Type 0) (limit : ℕ) (rows : List R) (r : R) (at : Option ℕ) → P (length rows) r → Every P rows → Every P (put_after limit rows r at)
every_put P limit rows r (Some n) here every = every
every_put P limit rows r None here every =
    cond_both (ltb (length rows) limit) _ _ (Every P) (λ _. every_push P rows r every here) (λ _. every)

-- what is read needs no more than is named
pub read_principal_needs : (known form x y : ℕ) → IfOk (read_principal known form x y) (λ r. principal_needs r ≤ known)
read_principal_needs known form x y = grind (arith, common_steps)

pub read_statement_needs : (principals known form x y : ℕ) → IfOk (read_statement principals known form x y) (λ r. (statement_needs r ≤ known) × (principals_needed r ≤ principals))
read_statement_needs principals known form x y = grind (arith, common_steps)
