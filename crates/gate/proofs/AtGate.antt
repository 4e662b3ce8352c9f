-- Filing and striking at a gate do what they are said to.
use Rattle.std.proofs.Common.{◌≡◌, ℕ, Bool, true, false, cond, eqb, is_some, Some, None, Err, Option, Result, sym, refl, subst}
use Rattle.std.specs.List.{slice_get}
use Rattle.std.proofs.lemmas.Bool.{eqb-true, eqb-false}
use Rattle.denials.specs.declared.denial.Denial.{Denial}
use Rattle.terms.specs.declared.row.StatementRow.{StatementRow}
use Rattle.denials.specs.Denials.{denied}
use Rattle.book.specs.declared.entry.Standing.{Standing}
use Rattle.book.specs.declared.entry.Standing.TheVariants.{Rule, Saying}
use Rattle.book.specs.Meaning.{file_answer, file_after}
use Rattle.book.proofs.Exact.{filed_computes, struck_computes}
use Rattle.gate.specs.State.{State, with_book, entry_of, filing, filing_left, filing_as, filing_left_as, striking, striking_left}
use Rattle.gate.specs.Laws.{Stands, as_rule, as_saying, FiledAt, no_standing, no_row, by_book, StruckAt}

module _ (g : State) (serial standing row : ℕ) where
  -- with a standing, by whether the row is named
  with_standing : (s : Standing) → Stands standing s → (o : Option StatementRow) → slice_get g.rows.statements row ≡ o → FiledAt g serial standing row (cond (is_some o) (file_answer g.book (entry_of serial s row)) (Err (denied 5 0))) (cond (is_some o) (with_book g (file_after g.book (entry_of serial s row))) g)
  with_standing s stands None found = no_row s stands found refl refl
  with_standing s stands (Some t) found = by_book s stands t found (filed_computes g.book (entry_of serial s row)) refl

  by_number : (one two : Bool) → eqb standing 1 ≡ one → eqb standing 2 ≡ two → FiledAt g serial standing row (filing_as g serial (cond one (Some Rule) (cond two (Some Saying) None)) row) (filing_left_as g serial (cond one (Some Rule) (cond two (Some Saying) None)) row)
  by_number true two is_one is-two = with_standing Rule (subst (λ n. Stands n Rule) (sym (eqb-true standing 1 is_one)) as_rule) (slice_get g.rows.statements row) refl
  by_number false true is_one is-two = with_standing Saying (subst (λ n. Stands n Saying) (sym (eqb-true standing 2 is-two)) as_saying) (slice_get g.rows.statements row) refl
  by_number false false is_one is-two = no_standing (eqb-false standing 1 is_one) (eqb-false standing 2 is-two) refl refl

  pub filing_files : (r : Result (Unit {0}) Denial) (h : State) → r ≡ filing g serial standing row → h ≡ filing_left g serial standing row → FiledAt g serial standing row r h
  filing_files r h answer after =
      subst (λ q. FiledAt g serial standing row q h) (sym answer) (subst (λ s. FiledAt g serial standing row (filing g serial standing row) s) (sym after) (by_number (eqb standing 1) (eqb standing 2) refl refl))

pub striking_strikes : (g : State) (serial : ℕ) (r : Result (Unit {0}) Denial) (h : State) → r ≡ striking g serial → h ≡ striking_left g serial → StruckAt g serial r h
striking_strikes g serial r h answer after =
    subst (λ q. StruckAt g serial q h) (sym answer) (subst (λ s. StruckAt g serial (striking g serial) s) (sym after) (record { by_book = struck_computes g.book serial; names = refl }))
