-- What rows write out to: a row writes out by its own parts, one more row leaves the earlier ones as they are, and rows that write out alike are one.
use Rattle.std.proofs.Common.{◌≡◌, ℕ, zero, suc, ◌+◌, ◌<◌, ◌≤◌, List, [], ◌∷◌, ◌++◌, length, get_or, Some, unwrap_or, sym, refl, ap, ◌∙◌, arith}
use Rattle.std.specs.List.{slice_get}
use Rattle.std.proofs.lemmas.Option.{unwrap_or-slice_get}
use Rattle.std.proofs.lemmas.List.{length_push}
use Rattle.terms.specs.declared.row.PrincipalRow.{PrincipalRow}
use Rattle.terms.specs.declared.row.PrincipalRow.TheVariants.{Atom, Both, Quoting}
use Rattle.terms.specs.declared.row.StatementRow.{StatementRow}
use Rattle.terms.specs.declared.row.StatementRow.TheVariants.{Request, Not, And, Says, SpeaksFor}
use Rattle.terms.specs.Tables.{PartsEarlier, PartsNamed, principal_needs, statement_needs, principals_needed}
use Rattle.terms.specs.Written.{Principal, atom, Statement, request, not, says, principal_of, statement_of, write_out, principals_written, statements_written}
use Rattle.terms.proofs.Nths.{nth_append_left, nth_last}

same_at : {X : Type 0} (xs ys : List X) (n : ℕ) (d : X) → slice_get xs n ≡ slice_get ys n → get_or xs n d ≡ get_or ys n d
same_at xs ys n d e = sym (unwrap_or-slice_get xs n d) ∙ ap (λ o. unwrap_or o d) e ∙ unwrap_or-slice_get ys n d

-- writing one row out depends only on the terms that the row needs
abbrev Depends : {R X : Type 0} → (List X → R → X) → (R → ℕ) → Type 0
Depends {R} {X} of needs = (e e' : List X) (r : R) → ((k : ℕ) → k < needs r → slice_get e k ≡ slice_get e' k) → of e r ≡ of e' r

module _ {R X : Type 0} (of : List X → R → X) where
  length_write_out : (e : List X) (rows : List R) → length (write_out of e rows) ≡ length e + length rows
  length_write_out e [] = omega arith
  length_write_out e (r ∷ rs) = omega (arith, length_write_out (e ++ (of e r ∷ [])) rs, length_push e (of e r))

  pub length_written : (rows : List R) → length (write_out of [] rows) ≡ length rows
  length_written rows = omega (arith, length_write_out [] rows)

  pub write_out_push : (e : List X) (rows : List R) (r : R) → write_out of e (rows ++ (r ∷ [])) ≡ write_out of e rows ++ (of (write_out of e rows) r ∷ [])
  write_out_push e [] r = refl
  write_out_push e (x ∷ xs) r = write_out_push (e ++ (of e x ∷ [])) xs r

  pub earlier_stay : (e : List X) (rows : List R) (k : ℕ) → k < length e → slice_get (write_out of e rows) k ≡ slice_get e k
  earlier_stay e [] k h = refl
  earlier_stay e (r ∷ rs) k h =
      earlier_stay (e ++ (of e r ∷ [])) rs k (omega (arith, length_push e (of e r))) ∙ nth_append_left e (of e r ∷ []) k h

  pub row_writes : (needs : R → ℕ) → Depends of needs → (e : List X) (rows : List R) (n : ℕ) (r : R) → slice_get rows n ≡ Some r → needs r ≤ length e + n → slice_get (write_out of e rows) (length e + n) ≡ Some (of (write_out of e rows) r)
  row_writes needs depends e [] n r found fits = cc
  row_writes needs depends e (x ∷ xs) zero r found fits =
      let more = e ++ (of e x ∷ []) in
      let same : x ≡ r = cc in
      let last : slice_get (write_out of more xs) (length e) ≡ Some (of e x) = earlier_stay more xs (length e) (omega (arith, length_push e (of e x))) ∙ nth_last e (of e x) in
      let parts : of e r ≡ of (write_out of more xs) r = depends e (write_out of more xs) r (λ k h. sym (earlier_stay e (x ∷ xs) k (omega arith))) in
      ap (slice_get (write_out of more xs)) (omega arith) ∙ last ∙ ap Some (ap (of e) same ∙ parts)
  row_writes needs depends e (x ∷ xs) (suc n) r found fits =
      let more = e ++ (of e x ∷ []) in
      let longer : length more ≡ length e + 1 = length_push e (of e x) in
      ap (slice_get (write_out of more xs)) (omega arith) ∙ row_writes needs depends more xs n r found (omega arith)

principal_depends : Depends principal_of principal_needs
principal_depends e e' (Atom x) h = refl
principal_depends e e' (Both x y) h = cc (same_at e e' x (atom 0) (h x (omega arith)), same_at e e' y (atom 0) (h y (omega arith)))
principal_depends e e' (Quoting x y) h = cc (same_at e e' x (atom 0) (h x (omega arith)), same_at e e' y (atom 0) (h y (omega arith)))

statement_depends : (ps : List Principal) → Depends (statement_of ps) statement_needs
statement_depends ps e e' (Request x) h = refl
statement_depends ps e e' (Not s) h = ap not (same_at e e' s (request 0) (h s (omega arith)))
statement_depends ps e e' (And s t) h = cc (same_at e e' s (request 0) (h s (omega arith)), same_at e e' t (request 0) (h t (omega arith)))
statement_depends ps e e' (Says p s) h = ap (says (get_or ps p (atom 0))) (same_at e e' s (request 0) (h s (omega arith)))
statement_depends ps e e' (SpeaksFor p q) h = refl

-- a named row writes out by its parts
pub principal_row_writes : (rows : List PrincipalRow) → PartsEarlier principal_needs rows → (n : ℕ) (r : PrincipalRow) → slice_get rows n ≡ Some r → slice_get (principals_written rows) n ≡ Some (principal_of (principals_written rows) r)
principal_row_writes rows earlier n r found =
    ap (slice_get (principals_written rows)) (omega arith) ∙ row_writes principal_of principal_needs principal_depends [] rows n r found (omega (arith, earlier n r found))

pub statement_row_writes : (ps : List Principal) (rows : List StatementRow) → PartsEarlier statement_needs rows → (n : ℕ) (r : StatementRow) → slice_get rows n ≡ Some r → slice_get (statements_written ps rows) n ≡ Some (statement_of ps (statements_written ps rows) r)
statement_row_writes ps rows earlier n r found =
    ap (slice_get (statements_written ps rows)) (omega arith) ∙ row_writes (statement_of ps) statement_needs (statement_depends ps) [] rows n r found (omega (arith, earlier n r found))

-- statements write out alike above more principals
statement_of_more : (ps : List Principal) (p : Principal) (e : List Statement) (r : StatementRow) → principals_needed r ≤ length ps → statement_of (ps ++ (p ∷ [])) e r ≡ statement_of ps e r
statement_of_more ps p e (Request x) h = refl
statement_of_more ps p e (Not s) h = refl
statement_of_more ps p e (And s t) h = refl
statement_of_more ps p e (Says q s) h = ap (λ t. says t (get_or e s (request 0))) (same_at (ps ++ (p ∷ [])) ps q (atom 0) (nth_append_left ps (p ∷ []) q (omega arith)))
statement_of_more ps p e (SpeaksFor q t) h =
    let a = same_at (ps ++ (p ∷ [])) ps q (atom 0) (nth_append_left ps (p ∷ []) q (omega arith)) in
    let b = same_at (ps ++ (p ∷ [])) ps t (atom 0) (nth_append_left ps (p ∷ []) t (omega arith)) in
    cc

pub statements_stay_above : (ps : List Principal) (p : Principal) (e : List Statement) (rows : List StatementRow) → PartsNamed principals_needed (length ps) rows → write_out (statement_of (ps ++ (p ∷ []))) e rows ≡ write_out (statement_of ps) e rows
statements_stay_above ps p e [] named = refl
statements_stay_above ps p e (r ∷ rs) named =
    ap (λ s. write_out (statement_of (ps ++ (p ∷ []))) (e ++ (s ∷ [])) rs) (statement_of_more ps p e r (named 0 r refl)) ∙ statements_stay_above ps p (e ++ (statement_of ps e r ∷ [])) rs (λ n q h. named (suc n) q h)
