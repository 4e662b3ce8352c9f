-- Naming, in the subject's words: what it answers, that it adds at most one row, and that naming again changes nothing.
use Rattle.std.proofs.Common.{◌≡◌, ℕ, ◌≤◌, Bool, true, ltb, List, [], ◌∷◌, ◌++◌, length, get_or, IfOk, Some, None, Ok, Err, Option, Result, refl, ap, inl, inr, arith}
use Rattle.std.specs.List.{position, position_or_len, slice_get}
use Rattle.std.proofs.lemmas.Bool.{cond_both}
use Rattle.std.proofs.lemmas.List.{length_push}
use Rattle.std.proofs.lemmas.List.Folds.{position_or_len_push}
use Rattle.std.proofs.lemmas.List.Quantifiers.{position-Some}
use Rattle.std.proofs.lemmas.List.Sums.{prefix_len-le-length}
use Rattle.std.proofs.lemmas.Option.{slice_get-get_or}
use Rattle.std.proofs.lemmas.Grind.{common_steps}
use Rattle.std.specs.Prelude.{not}
use Rattle.denials.specs.declared.denial.Denial.{Denial}
use Rattle.terms.specs.declared.row.PrincipalRow.{PrincipalRow}
use Rattle.terms.specs.declared.row.StatementRow.{StatementRow}
use Rattle.terms.specs.Rows.{Determined, principal_form, principal_x, principal_y, statement_form, statement_x, statement_y}
use Rattle.terms.specs.Naming.{same, put_answer, put_after, answered, left, read_principal, read_statement}
use Rattle.terms.specs.Laws.{OneMore, Answered}
use Rattle.terms.proofs.Nths.{nth_last}
use Rattle.terms.proofs.TableLaws.{same_refl, same_is, none_past}

-- a row that the search has not found is found at the end once it stands there
position_push : {R : Type 0} (is : R → Bool) (rows : List R) (r : R) → position is rows ≡ None → is r ≡ true → position is (rows ++ (r ∷ [])) ≡ Some (length rows)
position_push is rows r none passes =
    let all : position_or_len is rows ≡ length rows = omega (arith, none_past is rows none, prefix_len-le-length (λ x. not (is x)) rows) in
    let pushed = position_or_len_push is rows r in
    grind (arith, common_steps, pushed, length_push rows r)

module _ {R : Type 0} (form x y : R → ℕ) (determined : Determined form x y) (limit : ℕ) (rows : List R) where
  -- putting the row r in
  put_one : (r : R) (at : Option ℕ) → OneMore rows (put_after limit rows r at)
  put_one r (Some n) = inl refl
  put_one r None = cond_both (ltb (length rows) limit) _ _ (OneMore rows) (λ _. inr (r, refl)) (λ _. inl refl)

  put_denied : (r : R) (at : Option ℕ) (d : Denial) → put_answer limit rows at ≡ Err d → put_after limit rows r at ≡ rows
  put_denied r (Some n) d e = refl
  put_denied r None d e = grind (arith, common_steps)

  put_row : (r : R) (at : Option ℕ) → position (same form x y r) rows ≡ at → (n : ℕ) → put_answer limit rows at ≡ Ok n → slice_get (put_after limit rows r at) n ≡ Some r
  put_row r (Some m) found n e =
      let hit = position-Some (same form x y r) rows m r found in
      let is-r = same_is form x y determined r (get_or rows m r) hit.1 in
      let there = slice_get-get_or rows m r hit.0 in
      cc
  put_row r None found n e = let last = nth_last rows r in grind (arith, common_steps)

  put_found : (r : R) (at : Option ℕ) → position (same form x y r) rows ≡ at → (n : ℕ) → put_answer limit rows at ≡ Ok n → position (same form x y r) (put_after limit rows r at) ≡ Some n
  put_found r (Some m) found n e = cc
  put_found r None found n e = let last = position_push (same form x y r) rows r found (same_refl form x y r) in grind (arith, common_steps)

  abbrev answer_of : Result R Denial → Result ℕ Denial
  answer_of read = answered read (λ r. put_answer limit rows (position (same form x y r) rows))

  abbrev after_of : Result R Denial → List R
  after_of read = left read rows (λ r. put_after limit rows r (position (same form x y r) rows))

  pub naming_answered : (read : Result R Denial) (f a b : ℕ) → IfOk read (λ r. (form r ≡ f) × ((x r ≡ a) × (y r ≡ b))) → Answered form x y rows (after_of read) f a b (answer_of read)
  naming_answered (Ok r) f a b reads =
      record {
        row = λ n e. (r, (put_row r (position (same form x y r) rows) refl n e, reads));
        denied = λ d e. put_denied r (position (same form x y r) rows) d e;
        one = put_one r (position (same form x y r) rows);
      }
  naming_answered (Err d) f a b reads =
      record {
        row = λ n e. cc;
        denied = λ _ _. refl;
        one = inl refl;
      }

  -- what was read and got a number is found there again
  pub naming_found : (read : Result R Denial) (n : ℕ) → answer_of read ≡ Ok n → (r : R) × ((read ≡ Ok r) × (position (same form x y r) (after_of read) ≡ Some n))
  naming_found (Ok r) n e = (r, (refl, put_found r (position (same form x y r) rows) refl n e))
  naming_found (Err d) n e = cc

pub one_more_longer : {R : Type 0} (before after : List R) → OneMore before after → length before ≤ length after
one_more_longer before after (inl e) = omega (arith, ap length e)
one_more_longer before after (inr s) = omega (arith, ap length s.1, length_push before s.0)

-- what is read has the form and the operands that were given
pub read_principal_told : (known form x y : ℕ) → IfOk (read_principal known form x y) (λ r. (principal_form r ≡ form) × ((principal_x r ≡ x) × (principal_y r ≡ y)))
read_principal_told known form x y = grind (arith, common_steps)

pub read_statement_told : (principals known form x y : ℕ) → IfOk (read_statement principals known form x y) (λ r. (statement_form r ≡ form) × ((statement_x r ≡ x) × (statement_y r ≡ y)))
read_statement_told principals known form x y = grind (arith, common_steps)

-- where more rows are named, what was read is read still
pub read_principal_still : (known known' form x y : ℕ) (r : PrincipalRow) → known ≤ known' → read_principal known form x y ≡ Ok r → read_principal known' form x y ≡ Ok r
read_principal_still known known' form x y r more e = grind (arith, common_steps)

pub read_statement_still : (principals known known' form x y : ℕ) (r : StatementRow) → known ≤ known' → read_statement principals known form x y ≡ Ok r → read_statement principals known' form x y ≡ Ok r
read_statement_still principals known known' form x y r more e = grind (arith, common_steps)
