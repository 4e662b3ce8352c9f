-- How a line is cut into words. A word is a run of bytes other than the space, 32.
--
-- front b l      the bytes of l before its first b, all of l where it has none
-- behind b l     the bytes of l behind its first b, none where it has none
-- split b l      l cut at each b, which ends a piece; the last piece may lack it
-- filled ws      the lists of ws that are not empty, in order
-- trimmed l      l without its leading spaces
-- word l         the first word of l, empty where l has none
-- rest l         what follows the first word and the space behind it
-- words l        all words of l, in order
-- without b l    l without each b
-- Proper w       w is not empty and holds no space
use Rattle.std.specs.Prelude.{ℕ, ◌<◌, cond, List, [], ◌∷◌, length, ◌==◌, ◌≢◌}
use Rattle.std.specs.List.{All}

abbrev pub front : ℕ → List ℕ → List ℕ
front b [] = []
front b (x ∷ xs) = cond (x == b) [] (x ∷ front b xs)

abbrev pub behind : ℕ → List ℕ → List ℕ
behind b [] = []
behind b (x ∷ xs) = cond (x == b) xs (behind b xs)

-- x in front of the first piece
abbrev pub onto : ℕ → List (List ℕ) → List (List ℕ)
onto x [] = (x ∷ []) ∷ []
onto x (p ∷ ps) = (x ∷ p) ∷ ps

abbrev pub split : ℕ → List ℕ → List (List ℕ)
split b [] = []
split b (x ∷ xs) = cond (x == b) ([] ∷ split b xs) (onto x (split b xs))

abbrev pub keep : List ℕ → List (List ℕ) → List (List ℕ)
keep [] ws = ws
keep (x ∷ xs) ws = (x ∷ xs) ∷ ws

abbrev pub filled : List (List ℕ) → List (List ℕ)
filled [] = []
filled (w ∷ ws) = keep w (filled ws)

abbrev pub trimmed : List ℕ → List ℕ
trimmed [] = []
trimmed (x ∷ xs) = cond (x == 32) (trimmed xs) (x ∷ xs)

abbrev pub word : List ℕ → List ℕ
word l = front 32 (trimmed l)

abbrev pub rest : List ℕ → List ℕ
rest l = behind 32 (trimmed l)

abbrev pub words : List ℕ → List (List ℕ)
words l = filled (split 32 l)

abbrev pub without : ℕ → List ℕ → List ℕ
without b [] = []
without b (x ∷ xs) = cond (x == b) (without b xs) (x ∷ without b xs)

-- l holds no b
abbrev pub Lacks : ℕ → List ℕ → Type 0
Lacks b l = All (λ x. x ≢ b) l

abbrev pub Proper : List ℕ → Type 0
Proper w = (0 < length w) × Lacks 32 w
