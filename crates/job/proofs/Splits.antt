-- Splitting a list at a byte, step by step. Assumes nothing.
use Rattle.std.proofs.Common.{◌≡◌, ℕ, suc, ◌+◌, ◌<◌, true, false, cond, eqb, not, ◌⊎◌, List, [], ◌∷◌, ◌++◌, length, take, drop, sym, refl, ap, ◌∙◌, subst, inl, inr, arith}
use Rattle.std.specs.List.{flat_map, All, prefix_len, position_or_len, before_first, after_first}
use Rattle.std.proofs.Math.Numerals.{one-add}
use Rattle.std.proofs.lemmas.List.{nil_from_length}
use Rattle.std.proofs.lemmas.List.Elements.{All-nil, All-cons, All-head, All-tail}
use Rattle.std.proofs.lemmas.Bool.{eqb-true, eqb-false, cond-true, cond-false, cond_both}
use Rattle.job.specs.Words.{front, behind, onto, split, keep, filled, trimmed, word, rest, words, without, Lacks, Proper}
use Rattle.job.specs.Lines.{lines, ended, Whole}

-- a list that is not empty is its first piece and the pieces of what stands behind it
pub split_first : (b x : ℕ) (xs : List ℕ) → split b (x ∷ xs) ≡ front b (x ∷ xs) ∷ split b (behind b (x ∷ xs))
split_first b x [] = elim (eqb x b) as (λ t. cond t ([] ∷ []) ((x ∷ []) ∷ []) ≡ cond t [] (x ∷ []) ∷ split b (cond t [] [])) [ true ↦ refl | false ↦ refl ]
split_first b x (y ∷ ys) =
    let more = split_first b y ys in
    elim (eqb x b) as (λ t. cond t ([] ∷ split b (y ∷ ys)) (onto x (split b (y ∷ ys))) ≡ cond t [] (x ∷ front b (y ∷ ys)) ∷ split b (cond t (y ∷ ys) (behind b (y ∷ ys)))) [ true ↦ refl | false ↦ ap (onto x) more ]

-- a cut at the first b, in std's words
pub front_first : (b : ℕ) (xs : List ℕ) → front b xs ≡ before_first (λ x. eqb x b) xs
front_first b [] = refl
front_first b (x ∷ xs) =
    elim (eqb x b) as (λ t. cond t [] (x ∷ front b xs) ≡ take (cond (not t) (1 + position_or_len (λ y. eqb y b) xs) 0) (x ∷ xs))
    [ true ↦ refl | false ↦ ap (λ l. x ∷ l) (front_first b xs) ∙ sym (ap (λ n. take n (x ∷ xs)) (one-add _)) ]

pub behind_first : (b : ℕ) (xs : List ℕ) → behind b xs ≡ after_first (λ x. eqb x b) xs
behind_first b [] = refl
behind_first b (x ∷ xs) =
    elim (eqb x b) as (λ t. cond t xs (behind b xs) ≡ drop (cond (not t) (1 + position_or_len (λ y. eqb y b) xs) 0 + 1) (x ∷ xs))
    [ true ↦ refl | false ↦ let n = position_or_len (λ y. eqb y b) xs in let more : suc (n + 1) ≡ 1 + n + 1 = omega arith in behind_first b xs ∙ ap (λ m. drop m (x ∷ xs)) more ]

pub trimmed_first : (xs : List ℕ) → trimmed xs ≡ drop (prefix_len (λ x. eqb x 32) xs) xs
trimmed_first [] = refl
trimmed_first (x ∷ xs) =
    elim (eqb x 32) as (λ t. cond t (trimmed xs) (x ∷ xs) ≡ drop (cond t (1 + prefix_len (λ y. eqb y 32) xs) 0) (x ∷ xs))
    [ true ↦ trimmed_first xs ∙ sym (ap (λ n. drop n (x ∷ xs)) (one-add _)) | false ↦ refl ]

-- leading spaces part no words
pub words_trimmed : (l : List ℕ) → words (trimmed l) ≡ words l
words_trimmed [] = refl
words_trimmed (x ∷ xs) =
    cond_both (eqb x 32) (trimmed xs) (x ∷ xs) (λ l. words l ≡ words (x ∷ xs))
    (λ e. words_trimmed xs ∙ sym (ap filled (cond-true _ _ _ e)))
    (λ e. refl)

first_piece : (l : List ℕ) → words l ≡ keep (front 32 l) (words (behind 32 l))
first_piece [] = refl
first_piece (x ∷ xs) = ap filled (split_first 32 x xs)

-- the words of a line are its first word and the words of what follows
pub words_first : (l : List ℕ) → words l ≡ keep (word l) (words (rest l))
words_first l = sym (words_trimmed l) ∙ first_piece (trimmed l)

pub keep_filled : (w : List ℕ) (ws : List (List ℕ)) → 0 < length w → keep w ws ≡ w ∷ ws
keep_filled [] ws h = absurd (omega arith)
keep_filled (x ∷ xs) ws h = refl

first_none : (l : List ℕ) → word l ≡ [] → words l ≡ []
first_none [] h = refl
first_none (x ∷ xs) none =
    cond_both (eqb x 32) (trimmed xs) (x ∷ xs) (λ l. front 32 l ≡ [] → words (x ∷ xs) ≡ [])
    (λ e h. ap filled (cond-true _ _ _ e) ∙ first_none xs h)
    (λ e h. let one : x ∷ front 32 xs ≡ [] = sym (cond-false (eqb x 32) [] (x ∷ front 32 xs) e) ∙ h in cc)
    none

-- a first word that is not empty, and one that is
pub word_some : (l w r : List ℕ) → w ≡ word l → r ≡ rest l → 0 < length w → words l ≡ w ∷ words r
word_some l w r e f h =
    let P : List ℕ → List ℕ → Type 0 = λ v t. words l ≡ keep v (words t) in
    subst (λ t. P w t) (sym f) (subst (λ v. P v (rest l)) (sym e) (words_first l)) ∙ keep_filled w (words r) h

pub words_none : (l w : List ℕ) → w ≡ word l → length w ≡ 0 → words l ≡ []
words_none l w e h = first_none l (sym e ∙ nil_from_length w h)

joined_onto : (x : ℕ) (ps : List (List ℕ)) → flat_map (λ w. w) (onto x ps) ≡ x ∷ flat_map (λ w. w) ps
joined_onto x [] = refl
joined_onto x (p ∷ ps) = refl

joined_split : (b : ℕ) (l : List ℕ) → flat_map (λ w. w) (split b l) ≡ without b l
joined_split b [] = refl
joined_split b (x ∷ xs) =
    elim (eqb x b) as (λ t. flat_map (λ w. w) (cond t ([] ∷ split b xs) (onto x (split b xs))) ≡ cond t (without b xs) (x ∷ without b xs))
    [ true ↦ joined_split b xs | false ↦ joined_onto x (split b xs) ∙ ap (λ l. x ∷ l) (joined_split b xs) ]

joined_keep : (w : List ℕ) (ws : List (List ℕ)) → flat_map (λ v. v) (keep w ws) ≡ w ++ flat_map (λ v. v) ws
joined_keep [] ws = refl
joined_keep (x ∷ xs) ws = refl

joined_filled : (ps : List (List ℕ)) → flat_map (λ w. w) (filled ps) ≡ flat_map (λ w. w) ps
joined_filled [] = refl
joined_filled (p ∷ ps) = joined_keep p (filled ps) ∙ ap (λ l. p ++ l) (joined_filled ps)

-- the words hold every byte that is no space, in order
pub words_whole : (l : List ℕ) → flat_map (λ w. w) (words l) ≡ without 32 l
words_whole l = joined_filled (split 32 l) ∙ joined_split 32 l

lacks_onto : (b x : ℕ) (ps : List (List ℕ)) → (x ≡ b → ⊥) → All (Lacks b) ps → All (Lacks b) (onto x ps)
lacks_onto b x [] n h = All-cons (Lacks b) (x ∷ []) [] (All-cons (λ y. y ≡ b → ⊥) x [] n (All-nil (λ y. y ≡ b → ⊥))) (All-nil (Lacks b))
lacks_onto b x (p ∷ ps) n h = All-cons (Lacks b) (x ∷ p) ps (All-cons (λ y. y ≡ b → ⊥) x p n (All-head (Lacks b) p ps h)) (All-tail (Lacks b) p ps h)

pub split_lacks : (b : ℕ) (l : List ℕ) → All (Lacks b) (split b l)
split_lacks b [] = All-nil (Lacks b)
split_lacks b (x ∷ xs) =
    cond_both (eqb x b) ([] ∷ split b xs) (onto x (split b xs)) (All (Lacks b))
    (λ e. All-cons (Lacks b) [] (split b xs) (All-nil (λ y. y ≡ b → ⊥)) (split_lacks b xs))
    (λ e. lacks_onto b x (split b xs) (eqb-false x b e) (split_lacks b xs))

proper_keep : (w : List ℕ) (ws : List (List ℕ)) → Lacks 32 w → All Proper ws → All Proper (keep w ws)
proper_keep [] ws h k = k
proper_keep (x ∷ xs) ws h k = All-cons Proper (x ∷ xs) ws (omega arith, h) k

proper_filled : (ps : List (List ℕ)) → All (Lacks 32) ps → All Proper (filled ps)
proper_filled [] h = All-nil Proper
proper_filled (p ∷ ps) h = proper_keep p (filled ps) (All-head (Lacks 32) p ps h) (proper_filled ps (All-tail (Lacks 32) p ps h))

pub words_proper : (l : List ℕ) → All Proper (words l)
words_proper l = proper_filled (split 32 l) (split_lacks 32 l)

-- one more byte in front of a line leaves its end as it is
whole_onto : (x : ℕ) (ps : List (List ℕ)) (l : List ℕ) → (0 < length l → 0 < length ps) → (flat_map ended ps ≡ l) ⊎ (flat_map ended ps ≡ ended l) → (flat_map ended (onto x ps) ≡ x ∷ l) ⊎ (flat_map ended (onto x ps) ≡ x ∷ ended l)
whole_onto x [] [] some h = inr refl
whole_onto x [] (y ∷ ys) some h = absurd (omega (arith, some (omega arith)))
whole_onto x (p ∷ ps) l some (inl e) = inl (ap (λ t. x ∷ t) e)
whole_onto x (p ∷ ps) l some (inr e) = inr (ap (λ t. x ∷ t) e)

some_onto : (x : ℕ) (ps : List (List ℕ)) → 0 < length (onto x ps)
some_onto x [] = omega arith
some_onto x (p ∷ ps) = omega arith

split_some : (b : ℕ) (l : List ℕ) → 0 < length l → 0 < length (split b l)
split_some b [] h = h
split_some b (x ∷ xs) h = cond_both (eqb x b) ([] ∷ split b xs) (onto x (split b xs)) (λ ps. 0 < length ps) (λ e. omega arith) (λ e. some_onto x (split b xs))

whole_end : (xs : List ℕ) → Whole xs → (10 ∷ flat_map ended (lines xs) ≡ 10 ∷ xs) ⊎ (10 ∷ flat_map ended (lines xs) ≡ 10 ∷ ended xs)
whole_end xs (inl e) = inl (ap (λ l. 10 ∷ l) e)
whole_end xs (inr e) = inr (ap (λ l. 10 ∷ l) e)

pub lines_whole : (job : List ℕ) → Whole job
lines_whole [] = inl refl
lines_whole (x ∷ xs) =
    let W : List (List ℕ) → Type 0 = λ ps. (flat_map ended ps ≡ x ∷ xs) ⊎ (flat_map ended ps ≡ x ∷ ended xs) in
    cond_both (eqb x 10) ([] ∷ split 10 xs) (onto x (split 10 xs)) W
    (λ e. let n : ℕ → Type 0 = λ y. (10 ∷ flat_map ended (lines xs) ≡ y ∷ xs) ⊎ (10 ∷ flat_map ended (lines xs) ≡ y ∷ ended xs) in subst n (sym (eqb-true x 10 e)) (whole_end xs (lines_whole xs)))
    (λ e. whole_onto x (split 10 xs) xs (split_some 10 xs) (lines_whole xs))

pub line_first : (job line after : List ℕ) → line ≡ front 10 job → after ≡ behind 10 job → (length job ≡ 0 → ⊥) → lines job ≡ line ∷ lines after
line_first [] line after e f h = absurd (h refl)
line_first (x ∷ xs) line after e f h = split_first 10 x xs ∙ sym (ap (λ l. l ∷ lines after) e ∙ ap (λ l. front 10 (x ∷ xs) ∷ lines l) f)
