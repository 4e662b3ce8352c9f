-- Two rows of a table that write out alike are one row.
use Rattle.std.proofs.Common.{◌≡◌, ℕ, zero, suc, ◌<◌, ◌≤◌, List, [], length, get_or, Some, sym, ap, ◌∙◌, arith}
use Rattle.std.specs.List.{slice_get}
use Rattle.std.proofs.lemmas.Grind.{common_steps}
use Rattle.std.proofs.lemmas.Option.{slice_get-get_or, slice_get_within}
use Rattle.terms.specs.declared.row.PrincipalRow.{PrincipalRow}
use Rattle.terms.specs.declared.row.StatementRow.{StatementRow}
use Rattle.terms.specs.Tables.{Distinct, PartsEarlier, PartsNamed, principal_needs, statement_needs, principals_needed}
use Rattle.terms.specs.Written.{Principal, atom, Statement, request, principal_of, statement_of, write_out, principals_written, statements_written}
use Rattle.terms.proofs.Nths.{nth_some}
use Rattle.terms.proofs.Writing.{length_written, principal_row_writes, statement_row_writes}

-- terms at numbers below m and below n are equal only where the numbers are
abbrev Told : {X : Type 0} → List X → X → ℕ → ℕ → Type 0
Told xs d m n = (a b : ℕ) → a < m → b < n → get_or xs a d ≡ get_or xs b d → a ≡ b

-- for any kind of rows: `alike` says that rows with the same written-out term are the same, if their parts can be told by what they write out to
module _ {R X : Type 0} (of : List X → R → X) (d : X) (needs : R → ℕ) (rows : List R) (distinct : Distinct rows) (earlier : PartsEarlier needs rows) (writes : (n : ℕ) (r : R) → slice_get rows n ≡ Some r → slice_get (write_out of [] rows) n ≡ Some (of (write_out of [] rows) r)) (alike : (m n : ℕ) (r s : R) → slice_get rows m ≡ Some r → slice_get rows n ≡ Some s → Told (write_out of [] rows) d (needs r) (needs s) → of (write_out of [] rows) r ≡ of (write_out of [] rows) s → r ≡ s) where
  told_below : (n i j : ℕ) → i < n → i < length rows → j < length rows → get_or (write_out of [] rows) i d ≡ get_or (write_out of [] rows) j d → i ≡ j
  told_below zero i j bound h k e = absurd (omega arith)
  told_below (suc n) i j bound h k e =
      let terms = write_out of [] rows in
      let sized = length_written of rows in
      let r = nth_some rows i h in
      let s = nth_some rows j k in
      let first = writes i r.0 r.1 in
      let second = writes j s.0 s.1 in
      let at_i = slice_get-get_or terms i d (omega arith) in
      let at_j = slice_get-get_or terms j d (omega arith) in
      let parts : Told terms d (needs r.0) (needs s.0) = λ a b p q same. told_below n a b (omega (arith, earlier i r.0 r.1)) (omega (arith, earlier i r.0 r.1)) (omega (arith, earlier j s.0 s.1)) same in
      let row : r.0 ≡ s.0 = alike i j r.0 s.0 r.1 s.1 parts (cc) in
      let p = r.1 in
      let q = s.1 in
      distinct i j (h, cc)

  pub rows_apart : (i j : ℕ) (x : X) → slice_get (write_out of [] rows) i ≡ Some x → slice_get (write_out of [] rows) j ≡ Some x → i ≡ j
  rows_apart i j x e f =
      let terms = write_out of [] rows in
      let sized = length_written of rows in
      let below-i = slice_get_within terms i x e in
      let below-j = slice_get_within terms j x f in
      let at_i = slice_get-get_or terms i d below-i in
      let at_j = slice_get-get_or terms j d below-j in
      told_below (suc i) i j (omega arith) (omega arith) (omega arith) (cc)

principals_alike : (ps : List Principal) (r s : PrincipalRow) → Told ps (atom 0) (principal_needs r) (principal_needs s) → principal_of ps r ≡ principal_of ps s → r ≡ s
principals_alike ps r s told e = grind (arith, common_steps, told)

pub principals_apart : (rows : List PrincipalRow) → Distinct rows → PartsEarlier principal_needs rows → (i j : ℕ) (p : Principal) → slice_get (principals_written rows) i ≡ Some p → slice_get (principals_written rows) j ≡ Some p → i ≡ j
principals_apart rows distinct earlier =
    rows_apart principal_of (atom 0) principal_needs rows distinct earlier (principal_row_writes rows earlier) (λ m n r s _ _. principals_alike (principals_written rows) r s)

-- statements whose principals can be told
module _ (ps : List Principal) (told-principals : Told ps (atom 0) (length ps) (length ps)) where
  statements_alike : (ss : List Statement) (r s : StatementRow) → principals_needed r ≤ length ps → principals_needed s ≤ length ps → Told ss (request 0) (statement_needs r) (statement_needs s) → statement_of ps ss r ≡ statement_of ps ss s → r ≡ s
  statements_alike ss r s m n told e = grind (arith, common_steps, told, told-principals)

pub statements_apart : (principals : List PrincipalRow) (rows : List StatementRow) → Distinct principals → PartsEarlier principal_needs principals → Distinct rows → PartsEarlier statement_needs rows → PartsNamed principals_needed (length principals) rows → (i j : ℕ) (s : Statement) → slice_get (statements_written (principals_written principals) rows) i ≡ Some s → slice_get (statements_written (principals_written principals) rows) j ≡ Some s → i ≡ j
statements_apart principals rows distinct-principals earlier-principals distinct earlier named =
    let ps = principals_written principals in
    let sized : length ps ≡ length principals = length_written principal_of principals in
    let told : Told ps (atom 0) (length ps) (length ps) = λ a b p q e. principals_apart principals distinct-principals earlier-principals a b (get_or ps a (atom 0)) (slice_get-get_or ps a (atom 0) p) (slice_get-get_or ps b (atom 0) q ∙ ap Some (sym e)) in
    rows_apart (statement_of ps) (request 0) statement_needs rows distinct earlier (statement_row_writes ps rows earlier)
    (λ m n r s found found'. statements_alike ps told (statements_written ps rows) r s (omega (arith, named m r found)) (omega (arith, named n s found')))
