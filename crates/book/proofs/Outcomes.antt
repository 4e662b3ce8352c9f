-- What filing and striking answer and leave, case by case. Assumes nothing.
use Rattle.std.proofs.Common.{◌≡◌, ℕ, suc, ◌+◌, ◌-◌, true, false, is_some, Ok, Err, Result, sym, ap, ◌∙◌, arith}
use Rattle.std.proofs.lemmas.Bool.Decides.{nat_tests}
use Rattle.std.proofs.lemmas.Grind.{common_steps}
use Rattle.std.proofs.lemmas.Bool.{cond-true, cond-false}
use Rattle.denials.specs.declared.denial.Denial.{Denial}
use Rattle.denials.specs.Denials.{denied}
use Rattle.book.specs.declared.entry.Entry.{Entry}
use Rattle.book.specs.Meaning.{Meaning, means, with_entry, without, answered, settled, filing_number, file_answer, file_after, striking_number, strike_answer, strike_after}

module _ (m : Meaning) (s : ℕ) where
  pub number_zero : s ≡ 0 → filing_number m s ≡ 6
  number_zero z = grind (arith, nat_tests, common_steps)

  pub number_barred : (s ≡ 0 → ⊥) → m.barred s ≡ true → filing_number m s ≡ 7
  number_barred nz b = grind (arith, nat_tests, common_steps)

  pub number_live : (s ≡ 0 → ⊥) → m.barred s ≡ false → is_some (m.live s) ≡ true → filing_number m s ≡ 8
  number_live nz b l = grind (arith, nat_tests, common_steps)

  pub number_full :
      (s ≡ 0 → ⊥) → m.barred s ≡ false → is_some (m.live s) ≡ false → m.free ≡ 0 → filing_number m s ≡ 9
  number_full nz b l f = grind (arith, nat_tests, common_steps)

  pub number_free :
      (s ≡ 0 → ⊥) → m.barred s ≡ false → is_some (m.live s) ≡ false → (m.free ≡ 0 → ⊥) → filing_number m s ≡ 0
  number_free nz b l f = grind (arith, nat_tests, common_steps)

-- an answer and what is left, as filing and striking give them
pub record Files (m : Meaning) (e : Entry) (r : Result (Unit {0}) Denial) (n : Meaning) : Type 0 where
  pub answer : r ≡ file_answer m e
  pub after : n ≡ file_after m e

pub record Strikes (m : Meaning) (s : ℕ) (r : Result (Unit {0}) Denial) (n : Meaning) : Type 0 where
  pub answer : r ≡ strike_answer m s
  pub after : n ≡ strike_after m s

pub files_not :
    (m : Meaning) (e : Entry) (k : ℕ) (r : Result (Unit {0}) Denial) (n : Meaning) →
    filing_number m e.serial ≡ suc k → r ≡ Err (denied (suc k) e.serial) → n ≡ m → Files m e r n
files_not m e k r n number r-is n-is = record {
  answer = r-is ∙ ap (λ c. answered c e.serial) (sym number);
  after = n-is ∙ ap (λ c. settled c m (means (with_entry m.live e) m.barred (m.free - 1))) (sym number);
}

pub files_so :
    (m : Meaning) (e : Entry) (r : Result (Unit {0}) Denial) (n : Meaning) →
    filing_number m e.serial ≡ 0 → r ≡ Ok tt → n ≡ means (with_entry m.live e) m.barred (m.free - 1) → Files m e r n
files_so m e r n number r-is n-is = record {
  answer = r-is ∙ ap (λ c. answered c e.serial) (sym number);
  after = n-is ∙ ap (λ c. settled c m (means (with_entry m.live e) m.barred (m.free - 1))) (sym number);
}

pub strikes_not :
    (m : Meaning) (s : ℕ) (r : Result (Unit {0}) Denial) (n : Meaning) →
    is_some (m.live s) ≡ false → r ≡ Err (denied 11 s) → n ≡ m → Strikes m s r n
strikes_not m s r n dead r-is n-is =
    let number : striking_number m s ≡ 11 = cond-false _ _ _ dead in
    record {
      answer = r-is ∙ ap (λ c. answered c s) (sym number);
      after = n-is ∙ ap (λ c. settled c m (means (without m.live s) m.barred (m.free + 1))) (sym number);
    }

pub strikes_so :
    (m : Meaning) (s : ℕ) (r : Result (Unit {0}) Denial) (n : Meaning) →
    is_some (m.live s) ≡ true → r ≡ Ok tt → n ≡ means (without m.live s) m.barred (m.free + 1) → Strikes m s r n
strikes_so m s r n alive r-is n-is =
    let number : striking_number m s ≡ 0 = cond-true _ _ _ alive in
    record {
      answer = r-is ∙ ap (λ c. answered c s) (sym number);
      after = n-is ∙ ap (λ c. settled c m (means (without m.live s) m.barred (m.free + 1))) (sym number);
    }
