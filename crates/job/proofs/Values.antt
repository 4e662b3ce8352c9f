-- Reading a number digit by digit. Assumes nothing.
use Rattle.std.proofs.Common.{◌≡◌, ℕ, ◌+◌, ◌-◌, ◌*◌, ◌<◌, ◌≤◌, true, false, cond, ◌&&◌, leb, List, [], ◌∷◌, length, get_or, drop, Some, None, Option, sym, refl, ap, ◌∙◌, arith}
use Rattle.std.specs.List.{All}
use Rattle.std.proofs.lemmas.List.Elements.{All-nil, All-cons, All-head, All-tail}
use Rattle.std.proofs.lemmas.List.{at_drop_more, at_drop_all}
use Rattle.std.proofs.lemmas.Bool.{cond_both, cond-true, cond-false, leb-true, leb-false, lt-leb, le-leb, and_parts, and_from}
use Rattle.job.specs.Numbers.{digit, digits, value_after, value, written, number, IsDigit, Number}

-- reads on after digits of value n, and ends as soon as the value passes the limit
abbrev pub spell : ℕ → ℕ → List ℕ → Option ℕ
spell limit n [] = Some n
spell limit n (c ∷ cs) = cond (digit c) (cond (leb (n * 10 + (c - 48)) limit) (spell limit (n * 10 + (c - 48)) cs) None) None

-- what the digits ds after a value n are read as
abbrev told : ℕ → ℕ → List ℕ → Option ℕ
told limit n cs = cond (digits cs && leb (value_after n cs) limit) (Some (value_after n cs)) None

-- more digits do not make a value smaller
pub value_grows : (n : ℕ) (cs : List ℕ) → n ≤ value_after n cs
value_grows n [] = omega arith
value_grows n (c ∷ cs) = omega (arith, value_grows (n * 10 + (c - 48)) cs)

above : (limit n : ℕ) (cs : List ℕ) → limit < n → told limit n cs ≡ None
above limit n cs h =
    let past : leb (value_after n cs) limit ≡ false = lt-leb _ _ (omega (arith, value_grows n cs)) in
    elim (digits cs) as (λ t. cond (t && leb (value_after n cs) limit) (Some (value_after n cs)) None ≡ None)
    [ true ↦ ap (λ t. cond t (Some (value_after n cs)) None) past | false ↦ refl ]

pub spell_told : (limit n : ℕ) (cs : List ℕ) → n ≤ limit → spell limit n cs ≡ told limit n cs
spell_told limit n [] h = sym (cond-true (leb n limit) (Some n) None (le-leb n limit h))
spell_told limit n (c ∷ cs) h =
    let m : ℕ = n * 10 + (c - 48) in
    elim (digit c) as (λ t. cond t (cond (leb m limit) (spell limit m cs) None) None ≡ cond ((t && digits cs) && leb (value_after m cs) limit) (Some (value_after m cs)) None) [
      | true ↦ cond_both (leb m limit) (spell limit m cs) None (λ o. o ≡ told limit m cs) (λ e. spell_told limit m cs (leb-true _ _ e)) (λ e. sym (above limit m cs (leb-false _ _ e)))
      | false ↦ refl
    ]

pub spell_number : (limit : ℕ) (w : List ℕ) → 0 < length w → spell limit 0 w ≡ number limit w
spell_number limit [] h = absurd (omega arith)
spell_number limit (c ∷ cs) h = spell_told limit 0 (c ∷ cs) (omega arith)

pub number_empty : (limit : ℕ) (w : List ℕ) → length w ≡ 0 → None ≡ number limit w
number_empty limit [] h = refl
number_empty limit (c ∷ cs) h = absurd (omega arith)

all_digits : (w : List ℕ) → digits w ≡ true → All IsDigit w
all_digits [] h = All-nil IsDigit
all_digits (c ∷ cs) h =
    let p = and_parts (digit c) (digits cs) h in
    let q = and_parts (leb 48 c) (leb c 57) p.0 in
    All-cons IsDigit c cs (leb-true _ _ q.0, leb-true _ _ q.1) (all_digits cs p.1)

digits_all : (w : List ℕ) → All IsDigit w → digits w ≡ true
digits_all [] h = refl
digits_all (c ∷ cs) h =
    let first = All-head IsDigit c cs h in
    and_from (digit c) (digits cs) (and_from _ _ (le-leb _ _ first.0) (le-leb _ _ first.1)) (digits_all cs (All-tail IsDigit c cs h))

written_digits : (w : List ℕ) → written w ≡ true → (0 < length w) × (digits w ≡ true)
written_digits [] h = absurd cc
written_digits (c ∷ cs) h = (omega arith, h)

digits_written : (w : List ℕ) → 0 < length w → digits w ≡ true → written w ≡ true
digits_written [] some h = absurd (omega arith)
digits_written (c ∷ cs) some h = h

-- a word is read as n just where it is a number of value n within the limit
pub number_means : (limit : ℕ) (w : List ℕ) (n : ℕ) → number limit w ≡ Some n → Number limit w n
number_means limit w n =
    cond_both (written w && leb (value w) limit) (Some (value w)) None (λ o. o ≡ Some n → Number limit w n)
    (λ e h.
    let is : n ≡ value w = cc in
    let p = and_parts (written w) (leb (value w) limit) e in
    let q = written_digits w p.0 in
    let low = leb-true _ _ p.1 in
    record { some = q.0; decimal = all_digits w q.1; is = is; within = omega arith })
    (λ e h. absurd cc)

pub number_from : (limit : ℕ) (w : List ℕ) (n : ℕ) → Number limit w n → number limit w ≡ Some n
number_from limit w n h =
    let low : value w ≤ limit = omega (arith, h.is, h.within) in
    cond-true _ _ _ (and_from _ _ (digits_written w h.some (digits_all w h.decimal)) (le-leb _ _ low)) ∙ ap (λ m. Some m) (sym h.is)

-- the walk over the bytes of xs, with the value n of those before i
module _ (limit n : ℕ) (xs : List ℕ) (i : ℕ) where
  abbrev next : ℕ
  next = n * 10 + (get_or xs i 0 - 48)

  one : i < length xs → spell limit n (drop i xs) ≡ cond (digit (get_or xs i 0)) (cond (leb next limit) (spell limit next (drop (i + 1) xs)) None) None
  one h = at_drop_more (spell limit n) xs i 0 h

  pub spell_off : i < length xs → digit (get_or xs i 0) ≡ false → spell limit n (drop i xs) ≡ None
  spell_off h off = one h ∙ cond-false _ _ _ off

  pub spell_past : i < length xs → digit (get_or xs i 0) ≡ true → limit < next → spell limit n (drop i xs) ≡ None
  spell_past h on past = one h ∙ cond-true _ _ _ on ∙ cond-false _ _ _ (lt-leb _ _ past)

  pub spell_more : i < length xs → digit (get_or xs i 0) ≡ true → next ≤ limit → spell limit next (drop (i + 1) xs) ≡ spell limit n (drop i xs)
  spell_more h on fits = sym (one h ∙ cond-true _ _ _ on ∙ cond-true _ _ _ (le-leb _ _ fits))

  pub spell_end : length xs ≤ i → spell limit n (drop i xs) ≡ Some n
  spell_end h = at_drop_all (spell limit n) xs i h
