-- A line that says a command is read as that command. Assumes nothing.
use Rattle.std.proofs.Common.{◌≡◌, ℕ, ◌≤◌, true, false, cond, eqb, List, [], ◌∷◌, ◌++◌, length, Some, None, Ok, Err, codes, Option, Result, refl, ap, ◌∙◌, subst, ⊎_elim, append_assoc, arith}
use Rattle.std.specs.List.{All}
use Rattle.std.proofs.lemmas.List.Elements.{All-head, All-tail}
use Rattle.std.specs.Str.{bytes_eq}
use Rattle.std.proofs.lemmas.Slice.Eq.{bytes_eq-Decides}
use Rattle.std.proofs.lemmas.Bool.{cases_Bool, cond-true, cond-false, ne_eqb}
use Rattle.job.specs.declared.unreadable.Unreadable.{Unreadable}
use Rattle.job.specs.declared.unreadable.Unreadable.TheVariants.{BadEntry}
use Rattle.job.specs.Books.{Floor, ledger, Held, held, listing, listed, passing, behind_over, recalling, layer, below, layers, floor, given, entry, holding, held_in, also, all_held, entries}
use Rattle.job.specs.Commands.{Said, opens, turns, principal, statement, files, strikes, command, told, told_three, told_held, opening, answered, spoken}
use Rattle.job.specs.Grammar.{Serials, no_serial, serial, Sheets, bare, over, Base, a_ledger, a_card, Entry, parts, Entries, no_entry, one_entry, Ending, nothing, with_entries, Line, open_line, at_line, principal_line, statement_line, file_line, strike_line, book_line}
use Rattle.job.specs.Limits.{gate_limit, small_limit, standing_limit}
use Rattle.job.specs.Numbers.{number, IsDigit, Number}
use Rattle.job.specs.Operands.{Part, part, triple, on, counted, leading_number, closed, one, three}
use Rattle.job.specs.Words.{front, behind}
use Rattle.job.proofs.Values.{number_from}

-- numbers

first_is : {limit n : ℕ} {w : List ℕ} (ws : List (List ℕ)) → Number limit w n → leading_number limit (w ∷ ws) ≡ Ok (part n ws)
first_is {limit} {n} {w} ws h = ap (λ o. counted o ws) (number_from limit w n h)

one_is : {limit n : ℕ} {w : List ℕ} → Number limit w n → one limit (w ∷ []) ≡ Ok n
one_is h = ap (λ r. on r closed) (first_is [] h)

three_is : {a b c l m n : ℕ} {x y z : List ℕ} → Number a x l → Number b y m → Number c z n → three a b c (x ∷ y ∷ z ∷ []) ≡ Ok (triple l m n)
three_is {a} {b} {c} {l} {m} {n} {x} {y} {z} f g h =
    ap (λ r. on r (λ i is. on (leading_number b is) (λ j js. on (leading_number c js) (λ k ks. closed (triple i j k) ks)))) (first_is (y ∷ z ∷ []) f)
    ∙ ap (λ r. on r (λ j js. on (leading_number c js) (λ k ks. closed (triple l j k) ks))) (first_is (z ∷ []) g)
    ∙ ap (λ r. on r (λ k ks. closed (triple l m k) ks)) (first_is [] h)

-- layers

-- a number is not the word `over`
not_over : {limit n : ℕ} {w : List ℕ} → Number limit w n → bytes_eq w (codes "over") ≡ false
not_over {limit} {n} {w} h =
    ⊎_elim
    (λ e.
    let d = subst (All IsDigit) ((bytes_eq-Decides w (codes "over")).0 e) h.decimal in
    absurd (let first = All-head IsDigit 111 (codes "ver") d in omega (arith, first.1)))
    (λ e. e)
    (cases_Bool (bytes_eq w (codes "over")))

past_is : {ws : List (List ℕ)} {ns : List ℕ} → Serials ws ns → (after : List (List ℕ)) → behind_over (ws ++ codes "over" ∷ after) ≡ Ok after
past_is no_serial after = refl
past_is (serial {w} {ws} {n} h s) after =
    cond-false _ _ _ (not_over h) ∙ ap (λ o. passing o (behind_over (ws ++ codes "over" ∷ after))) (number_from small_limit w n h) ∙ past_is s after

listed_is : {ws : List (List ℕ)} {ns : List ℕ} → Serials ws ns → (after : List (List ℕ)) → listed (ws ++ codes "over" ∷ after) ≡ ns
listed_is no_serial after = refl
listed_is (serial {w} {ws} {n} h s) after =
    ap (λ o. listing o (listed (ws ++ codes "over" ∷ after))) (number_from small_limit w n h) ∙ ap (λ l. n ∷ l) (listed_is s after)

layer_is : {ws : List (List ℕ)} {ns : List ℕ} → Serials ws ns → (after : List (List ℕ)) → layer (codes "recall" ∷ (ws ++ codes "over" ∷ after)) ≡ Ok (Some (part ns after))
layer_is {ws} {ns} s after =
    ap (λ l. recalling l (behind_over (ws ++ codes "over" ∷ after))) (listed_is s after) ∙ ap (recalling ns) (past_is s after)

abbrev then_second : List ℕ → Result (Option (Part (List ℕ))) Unreadable → List (List ℕ) → Result (Part (List (List ℕ))) Unreadable
then_second ns r xs = below r (Ok (part (ns ∷ []) xs)) (λ ms ys. Ok (part (ns ∷ ms ∷ []) ys))

abbrev then_first : Result (Option (Part (List ℕ))) Unreadable → List (List ℕ) → Result (Part (List (List ℕ))) Unreadable
then_first r ws = below r (Ok (part [] ws)) (λ ns xs. then_second ns (layer xs) xs)

-- the layers end where no further layer begins
module _ (after : List (List ℕ)) (none : layer after ≡ Ok None) where
  top : {ws : List (List ℕ)} {ns : List ℕ} → Serials ws ns → (low : List (List ℕ)) → layer ((codes "recall" ∷ (ws ++ codes "over" ∷ low)) ++ after) ≡ Ok (Some (part ns (low ++ after)))
  top {ws} s low = ap (λ v. layer (codes "recall" ∷ v)) (append_assoc ws (codes "over" ∷ low) after) ∙ layer_is s (low ++ after)

  second_is : (ns : List ℕ) {low ls : List (List ℕ)} → Sheets low ls → length ls ≤ 1 → then_second ns (layer (low ++ after)) (low ++ after) ≡ Ok (part (ns ∷ ls) after)
  second_is ns bare h = ap (λ r. then_second ns r after) none
  second_is ns (over {ws} s bare) h = ap (λ r. then_second ns r ((codes "recall" ∷ (ws ++ codes "over" ∷ [])) ++ after)) (top s [])
  second_is ns (over s (over t l)) h = absurd (omega arith)

  layers_are : {ws ls : List (List ℕ)} → Sheets ws ls → length ls ≤ 2 → layers (ws ++ after) ≡ Ok (part ls after)
  layers_are bare h = ap (λ r. then_first r after) none
  layers_are (over {ws} {below = low} {ns} s l) h =
      ap (λ r. then_first r ((codes "recall" ∷ (ws ++ codes "over" ∷ low)) ++ after)) (top s low) ∙ second_is ns l (omega arith)

-- the lowest book

floor_is : {bs : List (List ℕ)} {f : Floor} → Base bs f → (after : List (List ℕ)) → floor (bs ++ after) ≡ Ok (part f after)
floor_is (a_ledger h) after = ap (λ r. on r (λ n ns. Ok (part (ledger n) ns))) (first_is after h)
floor_is a_card after = refl

base_bare : {bs : List (List ℕ)} {f : Floor} → Base bs f → (after : List (List ℕ)) → layer (bs ++ after) ≡ Ok None
base_bare (a_ledger h) after = refl
base_bare a_card after = refl

-- entries

-- digits hold no colon
front_digits : (s x : List ℕ) → All IsDigit s → front 58 (s ++ 58 ∷ x) ≡ s
front_digits [] x d = refl
front_digits (c ∷ s) x d = cond-false _ _ _ (ne_eqb c 58 (λ e. let first = All-head IsDigit c s d in omega (arith, first.1))) ∙ ap (λ l. c ∷ l) (front_digits s x (All-tail IsDigit c s d))

behind_digits : (s x : List ℕ) → All IsDigit s → behind 58 (s ++ 58 ∷ x) ≡ x
behind_digits [] x d = refl
behind_digits (c ∷ s) x d = cond-false _ _ _ (ne_eqb c 58 (λ e. let first = All-head IsDigit c s d in omega (arith, first.1))) ∙ behind_digits s x (All-tail IsDigit c s d)

-- an entry from its three parts
abbrev from_parts : List ℕ → List ℕ → List ℕ → Option Held
from_parts s t r =
    given (number small_limit s) (λ serial. given (number standing_limit t) (λ standing. given (number small_limit r) (λ row. cond (eqb standing 0) None (Some (held serial standing row)))))

entry_is : {w : List ℕ} {h : Held} → Entry w h → entry w ≡ Some h
entry_is (parts {s} {t} {r} {serial = l} {standing = m} {row = n} f g some k) =
    let one = behind_digits s (t ++ 58 ∷ r) f.decimal in
    ap (λ v. from_parts v (front 58 (behind 58 (s ++ 58 ∷ (t ++ 58 ∷ r)))) (behind 58 (behind 58 (s ++ 58 ∷ (t ++ 58 ∷ r))))) (front_digits s (t ++ 58 ∷ r) f.decimal)
    ∙ ap (λ v. from_parts s (front 58 v) (behind 58 v)) one
    ∙ ap (λ v. from_parts s v (behind 58 (t ++ 58 ∷ r))) (front_digits t r g.decimal)
    ∙ ap (λ v. from_parts s t v) (behind_digits t r g.decimal)
    ∙ ap (λ o. given o (λ i. given (number standing_limit t) (λ j. given (number small_limit r) (λ q. cond (eqb j 0) None (Some (held i j q)))))) (number_from small_limit s l f)
    ∙ ap (λ o. given o (λ j. given (number small_limit r) (λ q. cond (eqb j 0) None (Some (held l j q))))) (number_from standing_limit t m g)
    ∙ ap (λ o. given o (λ q. cond (eqb m 0) None (Some (held l m q)))) (number_from small_limit r n k)
    ∙ cond-false _ _ _ (ne_eqb m 0 (λ e. omega arith))

held_are : {ws : List (List ℕ)} {hs : List Held} → Entries ws hs → held_in ws ≡ hs
held_are no_entry = refl
held_are (one_entry {w} {ws} {h} {hs} e es) = ap (λ o. holding o (held_in ws)) (entry_is e) ∙ ap (λ l. h ∷ l) (held_are es)

all_are : {ws : List (List ℕ)} {hs : List Held} → Entries ws hs → all_held ws ≡ true
all_are no_entry = refl
all_are (one_entry {w} {ws} e es) = ap (λ o. also o (all_held ws)) (entry_is e) ∙ all_are es

entries_are : {ws : List (List ℕ)} {hs : List Held} → Ending ws hs → entries ws ≡ Ok hs
entries_are nothing = refl
entries_are (with_entries {w} {ws} es) = cond-true _ (Ok (held_in (w ∷ ws))) (Err BadEntry) (all_are es) ∙ ap (λ l. Ok l) (held_are es)

-- commands

opening_is : {g : List ℕ} {ls bs es : List (List ℕ)} {gate : ℕ} {sheets : List (List ℕ)} {f : Floor} {hs : List Held} → Number gate_limit g gate → Sheets ls sheets → length sheets ≤ 2 → Base bs f → Ending es hs → opening (g ∷ (ls ++ (bs ++ es))) ≡ Ok (opens gate sheets f hs)
opening_is {ls} {bs} {es} {gate} {sheets} {f} h s two b e =
    ap (λ r. on r (λ i is. on (layers is) (λ j js. on (floor js) (λ k ks. told_held (opens i j k) (entries ks))))) (first_is (ls ++ (bs ++ es)) h)
    ∙ ap (λ r. on r (λ j js. on (floor js) (λ k ks. told_held (opens gate j k) (entries ks)))) (layers_are (bs ++ es) (base_bare b es) s two)
    ∙ ap (λ r. on r (λ k ks. told_held (opens gate sheets k) (entries ks))) (floor_is b es)
    ∙ ap (told_held (opens gate sheets f)) (entries_are e)

pub complete : {ws : List (List ℕ)} {c : Said} → Line ws c → spoken ws ≡ command c
complete (open_line h s two b e) = ap answered (opening_is h s two b e)
complete (at_line h) = ap (λ r. answered (told turns r)) (one_is h)
complete (principal_line f g h) = ap (λ r. answered (told_three principal r)) (three_is f g h)
complete (statement_line f g h) = ap (λ r. answered (told_three statement r)) (three_is f g h)
complete (file_line f g h) = ap (λ r. answered (told_three files r)) (three_is f g h)
complete (strike_line h) = ap (λ r. answered (told strikes r)) (one_is h)
complete book_line = refl
