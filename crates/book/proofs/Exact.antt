-- That the laws in words say exactly what filing and striking compute. Assumes nothing.
use Rattle.std.proofs.Common.{◌≡◌, ℕ, suc, ◌+◌, ◌-◌, Bool, true, false, is_some, Some, None, Ok, Err, Option, Result, sym, refl, ap, ◌∙◌, subst, ⊎_elim, arith}
use mathlib.Core.Path.{fun_ext}
use Rattle.std.proofs.lemmas.Bool.Decides.{nat_tests}
use Rattle.std.proofs.lemmas.Grind.{common_steps}
use Rattle.std.proofs.lemmas.Bool.{eq-eqb, ne_eqb, cases_eq, cond-true, cond-false}
use Rattle.denials.specs.declared.denial.Denial.{Denial}
use Rattle.denials.specs.Denials.{denied}
use Rattle.book.specs.declared.entry.Entry.{Entry}
use Rattle.book.specs.Meaning.{Meaning, means, with_entry, without, answered, settled, filing_number, file_answer, file_after, striking_number, strike_answer, strike_after}
use Rattle.book.specs.Laws.{Filed, Struck, Entered, Removed, Unfileable, serial_zero, serial_barred, serial_live, no_place, FilingExact, StrikingExact, TakenBack}
use Rattle.book.proofs.Outcomes.{number_zero, number_barred, number_live, number_full, number_free, Files, files_not, files_so, Strikes, strikes_not, strikes_so}

pub same_meaning :
    (m n : Meaning) → ((s : ℕ) → m.live s ≡ n.live s) → ((s : ℕ) → m.barred s ≡ n.barred s) → m.free ≡ n.free → m ≡ n
same_meaning m n l b f =
    let lives : m.live ≡ n.live = fun_ext l in
    let bars : m.barred ≡ n.barred = fun_ext b in
    ap (λ x. means x m.barred m.free) lives ∙ ap (λ x. means n.live x m.free) bars ∙ ap (λ x. means n.live n.barred x) f

abbrev entered : Meaning → Entry → Meaning
entered m e = means (with_entry m.live e) m.barred (m.free - 1)

abbrev removed : Meaning → ℕ → Meaning
removed m s = means (without m.live s) m.barred (m.free + 1)

pub with_here : (live : ℕ → Option Entry) (e : Entry) (s : ℕ) → s ≡ e.serial → with_entry live e s ≡ Some e
with_here live e s same = cond-true _ _ _ (eq-eqb s e.serial same)

pub with_other : (live : ℕ → Option Entry) (e : Entry) (s : ℕ) → (s ≡ e.serial → ⊥) → with_entry live e s ≡ live s
with_other live e s other = cond-false _ _ _ (ne_eqb s e.serial other)

pub without_here : (live : ℕ → Option Entry) (t s : ℕ) → s ≡ t → without live t s ≡ None
without_here live t s same = cond-true _ _ _ (eq-eqb s t same)

pub without_other : (live : ℕ → Option Entry) (t s : ℕ) → (s ≡ t → ⊥) → without live t s ≡ live s
without_other live t s other = cond-false _ _ _ (ne_eqb s t other)

module _ (m : Meaning) (e : Entry) where
  denied_so :
      (k : ℕ) → filing_number m e.serial ≡ suc k → Unfileable m e (denied (suc k) e.serial) →
      Filed m e (file_answer m e) (file_after m e)
  denied_so k number why =
      let P : ℕ → Type 0 = λ c. Filed m e (answered c e.serial) (settled c m (entered m e)) in
      subst P (sym number) (why, refl)

  entered_so :
      filing_number m e.serial ≡ 0 → Entered m e (entered m e) → Filed m e (file_answer m e) (file_after m e)
  entered_so number done =
      let P : ℕ → Type 0 = λ c. Filed m e (answered c e.serial) (settled c m (entered m e)) in
      subst P (sym number) done

  by_place :
      (e.serial ≡ 0 → ⊥) → m.barred e.serial ≡ false → m.live e.serial ≡ None →
      Filed m e (file_answer m e) (file_after m e)
  by_place nz b l =
      ⊎_elim
      (λ (full : m.free ≡ 0). denied_so 8 (number_full m e.serial nz b (ap is_some l) full) (no_place nz b l full refl))
      (λ (free : m.free ≡ 0 → ⊥).
      entered_so (number_free m e.serial nz b (ap is_some l) free)
      (record {
        numbered = nz;
        open_serial = b;
        unused = l;
        entry = with_here m.live e e.serial refl;
        others = with_other m.live e;
        bars = λ s. refl;
        places = omega arith;
      }))
      (cases_eq m.free 0)

  by_live :
      (e.serial ≡ 0 → ⊥) → m.barred e.serial ≡ false → (o : Option Entry) → m.live e.serial ≡ o →
      Filed m e (file_answer m e) (file_after m e)
  by_live nz b None l = by_place nz b l
  by_live nz b (Some old) l = denied_so 7 (number_live m e.serial nz b (ap is_some l)) (serial_live nz b old l refl)

  by_bar :
      (e.serial ≡ 0 → ⊥) → (b : Bool) → m.barred e.serial ≡ b → Filed m e (file_answer m e) (file_after m e)
  by_bar nz true b = denied_so 6 (number_barred m e.serial nz b) (serial_barred nz b refl)
  by_bar nz false b = by_live nz b (m.live e.serial) refl

  pub filed_computes : Filed m e (file_answer m e) (file_after m e)
  filed_computes =
      ⊎_elim
      (λ (z : e.serial ≡ 0). denied_so 5 (number_zero m e.serial z) (serial_zero z refl))
      (λ (nz : e.serial ≡ 0 → ⊥). by_bar nz (m.barred e.serial) refl)
      (cases_eq e.serial 0)

  denied_means : (d : Denial) → Unfileable m e d → (n : Meaning) → n ≡ m → Files m e (Err d) n
  denied_means d (serial_zero z is) n same = files_not m e 5 (Err d) n (number_zero m e.serial z) (ap Err is) same
  denied_means d (serial_barred nz b is) n same =
      files_not m e 6 (Err d) n (number_barred m e.serial nz b) (ap Err is) same
  denied_means d (serial_live nz b old l is) n same =
      files_not m e 7 (Err d) n (number_live m e.serial nz b (ap is_some l)) (ap Err is) same
  denied_means d (no_place nz b l f is) n same =
      files_not m e 8 (Err d) n (number_full m e.serial nz b (ap is_some l) f) (ap Err is) same

  entered_is : (n : Meaning) → Entered m e n → n ≡ entered m e
  entered_is n h =
      same_meaning n (entered m e)
      (λ s. let moved = λ (same : s ≡ e.serial). ap n.live same in grind (arith, nat_tests, common_steps, moved, h.entry, h.others s))
      h.bars
      (omega (arith, h.places))

  pub filed_means : (r : Result (Unit {0}) Denial) (n : Meaning) → Filed m e r n → Files m e r n
  filed_means (Ok tt) n h =
      files_so m e (Ok tt) n
      (number_free m e.serial h.numbered h.open_serial (ap is_some h.unused) (λ f. omega (arith, h.places)))
      refl
      (entered_is n h)
  filed_means (Err d) n h = denied_means d h.0 n h.1

pub filing_exact : FilingExact
filing_exact m e r n = (
  λ h. let f = filed_means m e r n h in (f.answer, f.after),
  λ h. let P : Result (Unit {0}) Denial → Meaning → Type 0 = Filed m e in
      subst (λ x. Filed m e x n) (sym h.0) (subst (Filed m e (file_answer m e)) (sym h.1) (filed_computes m e)),
)

module _ (m : Meaning) (s : ℕ) where
  by_alive : (o : Option Entry) → m.live s ≡ o → Struck m s (strike_answer m s) (strike_after m s)
  by_alive None l =
      let P : ℕ → Type 0 = λ c. Struck m s (answered c s) (settled c m (removed m s)) in
      let number : striking_number m s ≡ 11 = cond-false _ _ _ (ap is_some l) in
      subst P (sym number) (record { dead = l; denial = refl }, refl)
  by_alive (Some e) l =
      let P : ℕ → Type 0 = λ c. Struck m s (answered c s) (settled c m (removed m s)) in
      let number : striking_number m s ≡ 0 = cond-true _ _ _ (ap is_some l) in
      subst P (sym number)
      (record {
        was = (e, l);
        gone = without_here m.live s s refl;
        others = without_other m.live s;
        bars = λ t. refl;
        places = omega arith;
      })

  pub struck_computes : Struck m s (strike_answer m s) (strike_after m s)
  struck_computes = by_alive (m.live s) refl

  removed_is : (n : Meaning) → Removed m s n → n ≡ removed m s
  removed_is n h =
      same_meaning n (removed m s)
      (λ t. let moved = λ (same : t ≡ s). ap n.live same in grind (arith, nat_tests, common_steps, moved, h.gone, h.others t))
      h.bars
      (omega (arith, h.places))

  pub struck_means : (r : Result (Unit {0}) Denial) (n : Meaning) → Struck m s r n → Strikes m s r n
  struck_means (Ok tt) n h = strikes_so m s (Ok tt) n (ap is_some h.was.1) refl (removed_is n h)
  struck_means (Err d) n h = strikes_not m s (Err d) n (ap is_some h.0.dead) (ap Err h.0.denial) h.1

pub striking_exact : StrikingExact
striking_exact m s r n = (
  λ h. let f = struck_means m s r n h in (f.answer, f.after),
  λ h. subst (λ x. Struck m s x n) (sym h.0) (subst (Struck m s (strike_answer m s)) (sym h.1) (struck_computes m s)),
)

-- a filing that was accepted, and what it left, undone
pub taken_back : TakenBack
taken_back m e ok =
    let done : Filed m e (Ok tt) (file_after m e) = subst (λ r. Filed m e r (file_after m e)) ok (filed_computes m e) in
    let n : Meaning = file_after m e in
    let back : Struck n e.serial (Ok tt) m = record {
      was = (e, done.entry);
      gone = done.unused;
      others = λ t other. sym (done.others t other);
      bars = λ t. sym (done.bars t);
      places = sym done.places;
    } in
    let h : Strikes n e.serial (Ok tt) m = struck_means n e.serial (Ok tt) m back in
    (sym h.answer, sym h.after)
