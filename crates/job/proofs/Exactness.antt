-- A line is read as a command just where its words say it, and as nothing just where it is hushed. Assumes nothing.
use Rattle.std.proofs.Common.{◌≡◌, ℕ, false, eqb, List, [], ◌∷◌, Some, None, Ok, Err, Option, Result, sym, refl, ap, ◌∙◌, subst}
use Rattle.std.specs.List.{starts_with}
use Rattle.std.proofs.lemmas.Bool.{cond_both, eqb-true, false≢true}
use Rattle.job.specs.declared.keyword.Keyword.{Keyword}
use Rattle.job.specs.declared.unreadable.Unreadable.{Unreadable}
use Rattle.job.specs.declared.unreadable.Unreadable.TheVariants.{UnknownCommand}
use Rattle.job.specs.Commands.{Said, Heard, silent, unreadable, command, saying, answered, spoken_by, spoken, reading}
use Rattle.job.specs.Grammar.{Line, Hushed, wordless, comment, Exactly}
use Rattle.job.specs.Keywords.{keyword}
use Rattle.job.specs.Words.{onto, split, filled, words}
use Rattle.job.proofs.Complete.{complete}
use Rattle.job.proofs.Sound.{sound}

-- a first word that begins with '#' is no keyword
hash_spoken : (ps : List (List ℕ)) → spoken (filled (onto 35 ps)) ≡ unreadable UnknownCommand
hash_spoken [] = refl
hash_spoken (p ∷ ps) = refl

hash_line : (bs : List ℕ) (c : Said) → Line (words (35 ∷ bs)) c → ⊥
hash_line bs c l =
    let heard-one = hash_spoken (split 32 bs) in
    let heard-two = complete l in
    cc

answered_loud : (r : Result Said Unreadable) → answered r ≡ silent → ⊥
answered_loud (Ok c) e = cc
answered_loud (Err e) i = cc

loud : (o : Option Keyword) (ws : List (List ℕ)) → spoken_by o ws ≡ silent → ⊥
loud (Some k) ws e = answered_loud (saying k ws) e
loud None ws e = cc

spoken_silent : (ws : List (List ℕ)) → spoken ws ≡ silent → ws ≡ []
spoken_silent [] e = refl
spoken_silent (w ∷ ws) e = absurd (loud (keyword w) ws e)

silent_spoken : (ws : List (List ℕ)) → ws ≡ [] → spoken ws ≡ silent
silent_spoken ws e = ap spoken e

hushed_spoken : (line : List ℕ) → (words line ≡ []) → reading line ≡ silent
hushed_spoken [] e = refl
hushed_spoken (b ∷ bs) e = cond_both (eqb b 35) silent (spoken (words (b ∷ bs))) (λ h. h ≡ silent) (λ _. refl) (λ _. silent_spoken (words (b ∷ bs)) e)

hushed : {line : List ℕ} → Hushed line → reading line ≡ silent
hushed {line} (wordless e) = hushed_spoken line e
hushed comment = refl

hushes : (line : List ℕ) → reading line ≡ silent → Hushed line
hushes [] e = wordless refl
hushes (b ∷ bs) e =
    cond_both (eqb b 35) silent (spoken (words (b ∷ bs))) (λ h. h ≡ silent → Hushed (b ∷ bs))
    (λ t _. subst (λ x. Hushed (x ∷ bs)) (sym (eqb-true b 35 t)) comment)
    (λ _ i. wordless (spoken_silent (words (b ∷ bs)) i))
    e

says : (line : List ℕ) (c : Said) → reading line ≡ command c → Line (words line) c
says [] c e = absurd cc
says (b ∷ bs) c e =
    cond_both (eqb b 35) silent (spoken (words (b ∷ bs))) (λ h. h ≡ command c → Line (words (b ∷ bs)) c)
    (λ _ i. absurd cc)
    (λ _ i. sound (words (b ∷ bs)) c i)
    e

empty_line : (c : Said) → Line [] c → ⊥
empty_line c l = let heard-two = complete l in cc

said : (line : List ℕ) (c : Said) → Line (words line) c → reading line ≡ command c
said [] c l = absurd (empty_line c l)
said (b ∷ bs) c l =
    cond_both (eqb b 35) silent (spoken (words (b ∷ bs))) (λ h. h ≡ command c)
    (λ t. let P : ℕ → Type 0 = λ x. Line (words (x ∷ bs)) c in absurd (hash_line bs c (subst P (eqb-true b 35 t) l)))
    (λ _. complete l)

single : (line : List ℕ) (c d : Said) → Line (words line) c → Line (words line) d → c ≡ d
single line c d l m = let one = said line c l in let two = said line d m in cc

-- a line that does not begin with '#' is read by its words
pub reading_words : (line w : List ℕ) (ws : List (List ℕ)) → false ≡ starts_with eqb line (35 ∷ []) → words line ≡ w ∷ ws → reading line ≡ spoken_by (keyword w) ws
reading_words [] w ws e i = absurd cc
reading_words (b ∷ bs) w ws e i =
    cond_both (eqb b 35) silent (spoken (words (b ∷ bs))) (λ h. h ≡ spoken_by (keyword w) ws)
    (λ t. let P : ℕ → Type 0 = λ x. false ≡ starts_with eqb (x ∷ bs) (35 ∷ []) in absurd (false≢true (subst P (eqb-true b 35 t) e)))
    (λ _. ap spoken i)

pub exactly : (line : List ℕ) (h : Heard) → h ≡ reading line → Exactly line h
exactly line h e = record {
  says = λ c i. says line c (sym e ∙ i);
  reads = λ c l. e ∙ said line c l;
  single = single line;
  hushes = λ i. hushes line (sym e ∙ i);
  hushed = λ u. e ∙ hushed u;
}
