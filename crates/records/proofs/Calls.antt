-- What a shift of records files or strikes in the book that they make. Assumes nothing.
use Rattle.std.proofs.Common.{◌≡◌, ℕ, suc, ◌+◌, ◌-◌, ◌<◌, ◌≤◌, false, List, replicate, is_some, Ok, Err, sym, refl, ap, ◌∙◌, subst, arith}
use Rattle.std.proofs.lemmas.List.{length-replicate, get_or-replicate}
use Rattle.denials.specs.Denials.{denied}
use Rattle.book.specs.declared.entry.Entry.{Entry}
use Rattle.book.specs.Live.{blank}
use Rattle.book.specs.Meaning.{means}
use Rattle.records.specs.Records.{serial_at, Kept, Placed, ShiftedIn, ShiftedOut, kept_means}
use Rattle.book.proofs.Outcomes.{Files, files_not, files_so, number_live, number_full, number_free, Strikes, strikes_so}
use Rattle.records.specs.Orderly.{held_none}
use Rattle.records.proofs.Held.{held_some}
use Rattle.records.proofs.Shifts.{in_kept, in_held, out_kept, out_held}

pub live_already :
    (xs : List Entry) (size n at : ℕ) (e : Entry) → Kept xs size n → (e.serial ≡ 0 → ⊥) → at < n →
    serial_at xs at ≡ e.serial → Files (kept_means xs size n) e (Err (denied 8 e.serial)) (kept_means xs size n)
live_already xs size n at e kept nz lt same =
    let m = kept_means xs size n in
    let alive = ap is_some (held_some xs n e.serial at kept.rising lt same) in
    files_not m e 7 (Err (denied 8 e.serial)) m (number_live m e.serial nz refl alive) refl refl

pub none_free :
    (xs : List Entry) (size n : ℕ) (e : Entry) → (e.serial ≡ 0 → ⊥) →
    ((k : ℕ) → k < n → serial_at xs k ≡ e.serial → ⊥) → n ≡ size →
    Files (kept_means xs size n) e (Err (denied 9 e.serial)) (kept_means xs size n)
none_free xs size n e nz new full =
    let m = kept_means xs size n in
    let dead = ap is_some (held_none xs n e.serial new) in
    files_not m e 8 (Err (denied 9 e.serial)) m (number_full m e.serial nz refl dead (omega arith)) refl refl

pub record Put (xs : List Entry) (size n : ℕ) (e : Entry) (ys : List Entry) (m : ℕ) : Type 0 where
  pub kept : Kept ys size m
  pub files : Files (kept_means xs size n) e (Ok tt) (kept_means ys size m)

pub put :
    (xs ys : List Entry) (size n m at : ℕ) (e : Entry) → Kept xs size n → n < size → Placed xs n e.serial at →
    ((k : ℕ) → k < n → serial_at xs k ≡ e.serial → ⊥) → 0 < e.serial → e.serial ≤ 65535 →
    ShiftedIn xs n at e ys → suc n ≡ m → Put xs size n e ys m
put xs ys size n m at e kept room placed new low high done more =
    let was = kept_means xs size n in
    let dead = ap is_some (held_none xs n e.serial new) in
    let number = number_free was e.serial (λ z. omega arith) refl dead (λ z. omega arith) in
    let lives = in_held xs ys size n at e kept room placed new low high done in
    let left : size - suc n ≡ size - n - 1 = omega arith in
    subst (Put xs size n e ys) more (record {
      kept = in_kept xs ys size n at e kept room placed new low high done;
      files = files_so was e (Ok tt) (kept_means ys size (suc n)) number refl
          (ap (λ l. means l (λ s. false) (size - suc n)) lives ∙ ap (means _ (λ s. false)) left);
    })

pub record Out (xs : List Entry) (size n s : ℕ) (ys : List Entry) (m : ℕ) : Type 0 where
  pub kept : Kept ys size m
  pub strikes : Strikes (kept_means xs size n) s (Ok tt) (kept_means ys size m)

pub out_one :
    (xs ys : List Entry) (size m at : ℕ) → Kept xs size (suc m) → at < suc m → ShiftedOut xs (suc m) at ys →
    Out xs size (suc m) (serial_at xs at) ys m
out_one xs ys size m at kept lt done =
    let was = kept_means xs size (suc m) in
    let alive = ap is_some (held_some xs (suc m) (serial_at xs at) at kept.rising lt refl) in
    let lives = out_held xs ys size m at kept lt done in
    let left : size - m ≡ size - suc m + 1 = omega (arith, kept.fits) in
    record {
      kept = out_kept xs ys size m at kept lt done;
      strikes = strikes_so was (serial_at xs at) (Ok tt) (kept_means ys size m) alive refl
          (ap (λ l. means l (λ s. false) (size - m)) lives ∙ ap (means _ (λ s. false)) left);
    }

pub out :
    (xs ys : List Entry) (size n m at s : ℕ) → Kept xs size n → at < n → serial_at xs at ≡ s →
    ShiftedOut xs n at ys → n ≡ suc m → Out xs size n s ys m
out xs ys size n m at s kept lt same done less =
    let P : ℕ → Type 0 = λ k. Kept xs size k → at < k → ShiftedOut xs k at ys → Out xs size k s ys m in
    let one : P (suc m) = λ kp l d. subst (λ t. Out xs size (suc m) t ys m) same (out_one xs ys size m at kp l d) in
    subst P (sym less) one kept lt done

-- the size that was counted before a call is the size after it
pub resized : (P : ℕ → ℕ → Type 0) (s t u : ℕ) → s ≡ t → s ≡ u → P s s → P t u
resized P s t u st su h = subst (P t) su (subst (λ v. P v s) st h)

-- 1,024 blank records hold nothing
pub blank_kept : (size : ℕ) → size ≤ 1024 → Kept (replicate 1024 blank) size 0
blank_kept size le = record {
  fits = omega arith;
  within = omega (arith, length-replicate 1024 blank);
  rising = λ i j lt hi. absurd (omega arith);
  low = λ k lt. absurd (omega arith);
  high = λ k lt. absurd (omega arith);
  rest = λ k lo hi. get_or-replicate 1024 k blank blank (omega arith);
}
