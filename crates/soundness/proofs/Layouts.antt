-- A proof file's request and lines settle its bytes.
--
-- Agree m            the first m bytes of the two files are the same
use Rattle.std.proofs.Common.{◌≡◌, ℕ, zero, suc, ◌+◌, ◌*◌, ◌<◌, ◌≤◌, List, length, get_or, sym, ap, inl, inr, ◌∙◌, arith, below_none, below_more}
use Rattle.std.specs.List.{All}
use Rattle.std.proofs.lemmas.Bool.{cases_lt}
use Rattle.std.proofs.lemmas.List.{ext_get_or, get_or_past}
use Rattle.std.proofs.lemmas.Option.{slice_get-get_or}
use Rattle.files.specs.Heads.{byte, number}
use Rattle.rules.specs.declared.line.Line.{Line}
use Rattle.soundness.specs.Rules.{line}
use Rattle.soundness.specs.ProofFiles.{line_at, ProofFile, SameBytes}

byte_below : (bytes : List ℕ) → All (λ x. x < 256) bytes → (i : ℕ) → byte bytes i < 256
byte_below bytes small i =
    elim (cases_lt i (length bytes)) [ inl within ↦ small i 0 within | inr past ↦ omega (arith, get_or_past bytes i 0 past) ]

module _ (xs ys : List ℕ) (xs-small : All (λ x. x < 256) xs) (ys-small : All (λ y. y < 256) ys) where
  abbrev Agree : ℕ → Type 0
  Agree m = (i : ℕ) → i < m → byte xs i ≡ byte ys i

  one_more : (m : ℕ) → Agree m → byte xs m ≡ byte ys m → Agree (m + 1)
  one_more = below_more (λ i. byte xs i ≡ byte ys i)

  -- two bytes are the digits of their number
  two_more : (m : ℕ) → Agree m → number xs m ≡ number ys m → Agree (m + 2)
  two_more m before same i h =
      let a = byte_below xs xs-small (m + 1) in
      let b = byte_below ys ys-small (m + 1) in
      one_more (m + 1) (one_more m before (omega arith)) (omega arith) i (omega arith)

  module _ (most r : ℕ) (ls : List Line) (laid-xs : ProofFile most r ls xs) (laid-ys : ProofFile most r ls ys) where
    heads_agree : Agree 10
    heads_agree =
        let mark = one_more 2 (one_more 1 (one_more 0 (below_none _) (omega arith)) (omega arith)) (omega arith) in
        let kind = one_more 5 (two_more 3 mark (omega arith)) (omega arith) in
        two_more 8 (two_more 6 kind (omega arith)) (omega arith)

    lines_agree : (k : ℕ) → k ≤ length ls → Agree (10 + 7 * k)
    lines_agree zero h i below = heads_agree i (omega arith)
    lines_agree (suc k) h i below =
        let l = get_or ls k (line 0 0 0 0) in
        let at = slice_get-get_or ls k (line 0 0 0 0) (omega arith) in
        let same : line_at xs k ≡ line_at ys k = laid-xs.each k l at ∙ sym (laid-ys.each k l at) in
        let code = one_more (10 + 7 * k) (lines_agree k (omega arith)) (ap (λ t. t.code) same) in
        let a = two_more (11 + 7 * k) (λ j m. code j (omega arith)) (ap (λ t. t.a) same) in
        let b = two_more (13 + 7 * k) (λ j m. a j (omega arith)) (ap (λ t. t.b) same) in
        two_more (15 + 7 * k) (λ j m. b j (omega arith)) (ap (λ t. t.c) same) i (omega arith)

pub same_bytes : SameBytes
same_bytes most r ls xs ys xs-small ys-small laid-xs laid-ys =
    ext_get_or 0 xs ys (laid-xs.long ∙ sym laid-ys.long) (λ i h.
    lines_agree xs ys xs-small ys-small most r ls laid-xs laid-ys (length ls) (omega arith) i (omega (arith, laid-xs.long)))
