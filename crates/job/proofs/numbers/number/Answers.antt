use Rattle.std.proofs.Common.{◌≡◌, ℕ, ◌<◌, List, length, Some, Option, sym, ◌∙◌, arith, false-eqb}
use Rattle.job.specs.Numbers.{number, Number}
use Rattle.job.proofs.Values.{spell_number, spell_off, spell_past, spell_end, number_means, number_from}
use Rattle.job.proofs.numbers.number.Goals as goal

exact : (limit : ℕ) (text : List ℕ) (r : Option ℕ) → r ≡ number limit text → (n : ℕ) → (r ≡ Some n → Number limit text n) × (Number limit text n → r ≡ Some n)
exact limit text r e n = (λ h. number_means limit text n (sym e ∙ h), λ h. e ∙ number_from limit text n h)

pub returns-then-not-is_ascii_digit-clause-value : goal.returns-then-not-is_ascii_digit-clause-value
returns-then-not-is_ascii_digit-clause-value c =
    let text = c.args.text.now in
    let some : 0 < length text = omega arith in
    sym (spell_off _ _ text _ c.loop-c-test.true (sym c.if-not-is_ascii_digit.ensures.value)) ∙ c.loop-c.invariant.1 ∙ spell_number _ text some

pub returns-then-value-most : goal.returns-then-value-most
returns-then-value-most c =
    let text = c.args.text.now in
    let some : 0 < length text = omega arith in
    let e = sym (spell_past _ _ text _ c.loop-c-test.true (sym c.if-not-is_ascii_digit.ensures.value) c.if-value-most.true) ∙ c.loop-c.invariant.1 ∙ spell_number _ text some in
    record { value = e; within = tt; exactly = exact _ text _ e }

pub returns : goal.returns
returns c =
    let text = c.args.text.now in
    let some : 0 < length text = omega (arith, false-eqb _ 0 c.if-is_empty.ensures) in
    let e = sym (spell_end _ _ text _ c.loop-c-test.false) ∙ c.loop-c.invariant.1 ∙ spell_number _ text some in
    record { value = e; within = c.loop-c.invariant.0; exactly = exact _ text _ e }
