-- The lines of a file, cut out of it seven bytes at a time.
use Rattle.std.proofs.Common.{◌≡◌, ℕ, zero, suc, ◌+◌, ◌*◌, ◌<◌, List, ◌∷◌, map, get_or, take, drop, refl, ap, ◌∙◌, ap₂, arith}
use Rattle.std.proofs.lemmas.List.{get_or-take, get_or-drop, drop-drop}
use Rattle.std.specs.Simd.{first_chunks}
use Rattle.soundness.specs.Rules.{line}
use Rattle.soundness.specs.ProofFiles.{line_at, lines_from}
use Rattle.tableau.specs.Lines.{line_of}

module _ (file : List ℕ) where
  in_file : (k j n : ℕ) → j < 7 → k + j ≡ n → get_or (take 7 (drop k file)) j 0 ≡ get_or file n 0
  in_file k j n below is = get_or-take 7 (drop k file) j 0 below ∙ get_or-drop k file j 0 ∙ ap (λ m. get_or file m 0) is

  one_line : (i : ℕ) → line_of (take 7 (drop (10 + 7 * i) file)) ≡ line_at file i
  one_line i =
      let k : ℕ = 10 + 7 * i in
      let at0 = in_file k 0 k (omega arith) (omega arith) in
      let at1 = in_file k 1 (11 + 7 * i) (omega arith) (omega arith) in
      let at2 = in_file k 2 (11 + 7 * i + 1) (omega arith) (omega arith) in
      let at3 = in_file k 3 (13 + 7 * i) (omega arith) (omega arith) in
      let at4 = in_file k 4 (13 + 7 * i + 1) (omega arith) (omega arith) in
      let at5 = in_file k 5 (15 + 7 * i) (omega arith) (omega arith) in
      let at6 = in_file k 6 (15 + 7 * i + 1) (omega arith) (omega arith) in
      λ t. line (at0 t) (at1 t * 256 + at2 t) (at3 t * 256 + at4 t) (at5 t * 256 + at6 t)

  pub lines_are : (n i : ℕ) → map line_of (first_chunks 7 n (drop (10 + 7 * i) file)) ≡ lines_from file i n
  lines_are zero i = refl
  lines_are (suc n) i =
      let next : drop 7 (drop (10 + 7 * i) file) ≡ drop (10 + 7 * (i + 1)) file = drop-drop 7 (10 + 7 * i) file ∙ ap (λ m. drop m file) (omega arith) in
      ap₂ ◌∷◌ (one_line i) (ap (λ bytes. map line_of (first_chunks 7 n bytes)) next ∙ lines_are n (i + 1))
