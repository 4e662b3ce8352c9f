-- The tables are sound, naming keeps them so, and it is lawful.
use Rattle.std.proofs.Common.{◌≡◌, ℕ, ◌≤◌, List, [], length, take, IfOk, Some, None, Ok, Err, Option, Result, refl, ap, ◌∙◌, inl, inr, arith}
use Rattle.std.specs.List.{position, slice_get}
use Rattle.std.proofs.lemmas.List.{length_push, length-take-le}
use Rattle.std.proofs.lemmas.Grind.{common_steps}
use Rattle.std.proofs.lemmas.Option.{slice_get_within}
use Rattle.denials.specs.declared.denial.Denial.{Denial}
use Rattle.terms.specs.declared.names.Names.{Names}
use Rattle.terms.specs.declared.row.PrincipalRow.{PrincipalRow}
use Rattle.terms.specs.declared.row.StatementRow.{StatementRow}
use Rattle.terms.specs.Rows.{principal_form, principal_x, principal_y, principal_determined, statement_form, statement_x, statement_y, statement_determined}
use Rattle.terms.specs.Naming.{same, put_answer, put_after, answered, left, read_principal, read_statement, principal_after, statement_after, same_principal, same_statement}
use Rattle.terms.specs.Tables.{Distinct, Every, PartsNamed, principal_needs, statement_needs, principals_needed}
use Rattle.terms.specs.Written.{Rows, principal_of, statement_of, principals_written, statements_written, write_out}
use Rattle.terms.specs.Laws.{OneMore, Stay, Apart, Answered, LawfulNaming, SoundRows, principal_name, principal_named, statement_name, statement_named}
use Rattle.terms.specs.Named.{rows_of}
use Rattle.terms.proofs.Nths.{nth_append_left}
use Rattle.terms.proofs.TableLaws.{distinct_put, every_put, read_principal_needs, read_statement_needs}
use Rattle.terms.proofs.Writing.{length_written, write_out_push, statements_stay_above}
use Rattle.terms.proofs.Apart.{principals_apart, statements_apart}
use Rattle.terms.proofs.NamingLaws.{naming_answered, naming_found, one_more_longer, read_principal_told, read_statement_told, read_principal_still, read_statement_still}

pub rows_sound : (n : Names) → SoundRows (rows_of n)
rows_sound n =
    let p = n.principals in
    let s = n.statements in
    let p-length : length (take p.count p.rows) ≡ p.count = length-take-le p.count p.rows (omega (arith, p.size, p.within)) in
    let s-length : length (take s.count s.rows) ≡ s.count = length-take-le s.count s.rows (omega (arith, s.size, s.within)) in
    record {
      principals_within = omega (arith, p.within);
      statements_within = omega (arith, s.within);
      principals_distinct = p.distinct;
      statements_distinct = s.distinct;
      principals_earlier = p.earlier;
      statements_earlier = s.earlier;
      named = λ k r e. omega (arith, n.named k r e);
    }

-- what holds of a table still holds after naming what was read
module _ {R : Type 0} (form x y : R → ℕ) (limit : ℕ) (rows : List R) where
  abbrev after_naming : Result R Denial → List R
  after_naming read = left read rows (λ r. put_after limit rows r (position (same form x y r) rows))

  distinct_after : (read : Result R Denial) → Distinct rows → Distinct (after_naming read)
  distinct_after (Ok r) distinct = distinct_put form x y limit rows r _ refl distinct
  distinct_after (Err d) distinct = distinct

  every_after : (P : ℕ → R → Type 0) (read : Result R Denial) → IfOk read (λ r. P (length rows) r) → Every P rows → Every P (after_naming read)
  every_after P (Ok r) here every = every_put P limit rows r (position (same form x y r) rows) here every
  every_after P (Err d) here every = every

  put_within : (r : R) (at : Option ℕ) → length rows ≤ limit → length (put_after limit rows r at) ≤ limit
  put_within r (Some n) h = h
  put_within r None h = let longer = length_push rows r in grind (arith, common_steps)

  within_after : (read : Result R Denial) → length rows ≤ limit → length (after_naming read) ≤ limit
  within_after (Ok r) h = put_within r (position (same form x y r) rows) h
  within_after (Err d) h = h

weaken : {R : Type 0} (read : Result R Denial) (P Q : R → Type 0) → ((r : R) → P r → Q r) → IfOk read P → IfOk read Q
weaken (Ok r) P Q f h = f r h
weaken (Err d) P Q f h = tt

module _ (t : Rows) (sound : SoundRows t) (f a b : ℕ) where
  abbrev ps : List PrincipalRow
  ps = t.principals

  abbrev ss : List StatementRow
  ss = t.statements

  principal_answered : Answered principal_form principal_x principal_y ps (principal_after ps f a b) f a b (principal_name t f a b)
  principal_answered = naming_answered principal_form principal_x principal_y principal_determined 64 ps (read_principal (length ps) f a b) f a b (read_principal_told (length ps) f a b)

  statement_answered : Answered statement_form statement_x statement_y ss (statement_after (length ps) ss f a b) f a b (statement_name t f a b)
  statement_answered = naming_answered statement_form statement_x statement_y statement_determined 256 ss (read_statement (length ps) (length ss) f a b) f a b (read_statement_told (length ps) (length ss) f a b)

  pub principal_named_sound : SoundRows (principal_named t f a b)
  principal_named_sound =
      let read = read_principal (length ps) f a b in
      let longer = one_more_longer ps (principal_after ps f a b) principal_answered.one in
      record {
        principals_within = within_after principal_form principal_x principal_y 64 ps read sound.principals_within;
        statements_within = sound.statements_within;
        principals_distinct = distinct_after principal_form principal_x principal_y 64 ps read sound.principals_distinct;
        statements_distinct = sound.statements_distinct;
        principals_earlier = every_after principal_form principal_x principal_y 64 ps (λ n r. principal_needs r ≤ n) read (read_principal_needs (length ps) f a b) sound.principals_earlier;
        statements_earlier = sound.statements_earlier;
        named = λ k r e. omega (arith, sound.named k r e, longer);
      }

  pub statement_named_sound : SoundRows (statement_named t f a b)
  statement_named_sound =
      let read = read_statement (length ps) (length ss) f a b in
      let needs = read_statement_needs (length ps) (length ss) f a b in
      record {
        principals_within = sound.principals_within;
        statements_within = within_after statement_form statement_x statement_y 256 ss read sound.statements_within;
        principals_distinct = sound.principals_distinct;
        statements_distinct = distinct_after statement_form statement_x statement_y 256 ss read sound.statements_distinct;
        principals_earlier = sound.principals_earlier;
        statements_earlier = every_after statement_form statement_x statement_y 256 ss (λ n r. statement_needs r ≤ n) read (weaken read _ _ (λ r h. h.0) needs) sound.statements_earlier;
        named = every_after statement_form statement_x statement_y 256 ss (λ n r. principals_needed r ≤ length ps) read (weaken read _ _ (λ r h. h.1) needs) sound.named;
      }

pub sound_apart : (t : Rows) → SoundRows t → Apart t
sound_apart t sound =
    record {
      principals = principals_apart t.principals sound.principals_distinct sound.principals_earlier;
      statements = statements_apart t.principals t.statements sound.principals_distinct sound.principals_earlier sound.statements_distinct sound.statements_earlier sound.named;
    }

-- one more row leaves what the others write out to
rows_stay : {R X : Type 0} (of : List X → R → X) (before after : List R) → OneMore before after → (n : ℕ) (x : X) → slice_get (write_out of [] before) n ≡ Some x → slice_get (write_out of [] after) n ≡ Some x
rows_stay of before after (inl e) n x h = ap (λ rows. slice_get (write_out of [] rows) n) e ∙ h
rows_stay of before after (inr s) n x h =
    ap (λ rows. slice_get (write_out of [] rows) n) s.1 ∙ ap (λ terms. slice_get terms n) (write_out_push of [] before s.0) ∙ nth_append_left (write_out of [] before) _ n (slice_get_within (write_out of [] before) n x h) ∙ h

statements_stay_by : (before after : List PrincipalRow) (rows : List StatementRow) → OneMore before after → PartsNamed principals_needed (length before) rows → statements_written (principals_written after) rows ≡ statements_written (principals_written before) rows
statements_stay_by before after rows (inl e) named = ap (λ l. statements_written (principals_written l) rows) e
statements_stay_by before after rows (inr s) named =
    ap (λ l. statements_written (principals_written l) rows) s.1 ∙ ap (λ terms. statements_written terms rows) (write_out_push principal_of [] before s.0) ∙ statements_stay_above (principals_written before) _ [] rows (λ k r e. omega (arith, named k r e, length_written principal_of before))

module _ (t : Rows) (sound : SoundRows t) (f a b : ℕ) where
  principal_stay : Stay t (principal_named t f a b)
  principal_stay =
      let one = (principal_answered t sound f a b).one in
      record {
        principals = rows_stay principal_of t.principals (principal_after t.principals f a b) one;
        statements = λ n s h. ap (λ all. slice_get all n) (statements_stay_by t.principals (principal_after t.principals f a b) t.statements one sound.named) ∙ h;
      }

  statement_stay : Stay t (statement_named t f a b)
  statement_stay =
      record {
        principals = λ n p h. h;
        statements = rows_stay (statement_of (principals_written t.principals)) t.statements (statement_after (length t.principals) t.statements f a b) (statement_answered t sound f a b).one;
      }

  pub principal_lawful : LawfulNaming principal_form principal_x principal_y (λ u. u.principals) principal_name principal_named t f a b
  principal_lawful =
      let ps = t.principals in
      let after = principal_after ps f a b in
      let longer = one_more_longer ps after (principal_answered t sound f a b).one in
      record {
        answered = principal_answered t sound f a b;
        stay = principal_stay;
        apart = sound_apart (principal_named t f a b) (principal_named_sound t sound f a b);
        again = λ n e.
            let found = naming_found principal_form principal_x principal_y principal_determined 64 ps (read_principal (length ps) f a b) n e in
            let read = read_principal_still (length ps) (length after) f a b found.0 longer found.1.0 in (
              ap (λ o. answered o (λ r. put_answer 64 after (position (same_principal r) after))) read ∙ ap (put_answer 64 after) found.1.1,
              ap (λ l. record { principals = l; statements = t.statements }) (ap (λ o. left o after (λ r. put_after 64 after r (position (same_principal r) after))) read ∙ ap (put_after 64 after found.0) found.1.1),
            );
      }

  pub statement_lawful : LawfulNaming statement_form statement_x statement_y (λ u. u.statements) statement_name statement_named t f a b
  statement_lawful =
      let ps = t.principals in
      let ss = t.statements in
      let after = statement_after (length ps) ss f a b in
      let longer = one_more_longer ss after (statement_answered t sound f a b).one in
      record {
        answered = statement_answered t sound f a b;
        stay = statement_stay;
        apart = sound_apart (statement_named t f a b) (statement_named_sound t sound f a b);
        again = λ n e.
            let found = naming_found statement_form statement_x statement_y statement_determined 256 ss (read_statement (length ps) (length ss) f a b) n e in
            let read = read_statement_still (length ps) (length ss) (length after) f a b found.0 longer found.1.0 in (
              ap (λ o. answered o (λ r. put_answer 256 after (position (same_statement r) after))) read ∙ ap (put_answer 256 after) found.1.1,
              ap (λ l. record { principals = ps; statements = l }) (ap (λ o. left o after (λ r. put_after 256 after r (position (same_statement r) after))) read ∙ ap (put_after 256 after found.0) found.1.1),
            );
      }
