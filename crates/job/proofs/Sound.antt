-- What is read as a command is a line that says it. Assumes nothing.
use Rattle.std.proofs.Common.{◌≡◌, ℕ, ◌≤◌, cond, List, [], ◌∷◌, ◌++◌, length, Some, None, Ok, Err, codes, Option, Result, subst}
use Rattle.std.specs.Str.{bytes_eq}
use Rattle.std.proofs.lemmas.Bool.{cond_both}
use Rattle.job.specs.declared.keyword.Keyword.{Keyword}
use Rattle.job.specs.declared.keyword.Keyword.TheVariants.{Open, At, Principal, Statement, File, Strike, Book}
use Rattle.job.specs.declared.unreadable.Unreadable.{Unreadable}
use Rattle.job.specs.Books.{Floor, Held, layers, floor, entries}
use Rattle.job.specs.Commands.{Said, opens, turns, principal, statement, files, strikes, lists, command, told, told_three, told_held, answered, spoken_by, spoken}
use Rattle.job.specs.Grammar.{Sheets, Base, Line, open_line, at_line, principal_line, statement_line, file_line, strike_line, book_line}
use Rattle.job.specs.Keywords.{keyword}
use Rattle.job.specs.Limits.{gate_limit, code_limit, small_limit}
use Rattle.job.specs.Numbers.{Number}
use Rattle.job.specs.Operands.{Part, Triple, on, closed}
use Rattle.job.proofs.ReadBooks.{spelt, Layered, the_layers, no_layers, layers_view, Based, based, no_base, floor_view, Ended, ended, no_end, entries_view}
use Rattle.job.proofs.ReadNumbers.{First, first, no_first, first_view, One, the_one, no_one, one_view, Three, the_three, no_three, three_view}

data Says (w : List ℕ) (ws : List (List ℕ)) : Result Said Unreadable → Type 0 where
  says : {c : Said} → Line (w ∷ ws) c → Says w ws (Ok c)
  mute : {e : Unreadable} → Says w ws (Err e)

says_at : {ws : List (List ℕ)} {r : Result ℕ Unreadable} → One gate_limit ws r → Says (codes "at") ws (told turns r)
says_at (the_one h) = says (at_line h)
says_at no_one = mute

says_strike : {ws : List (List ℕ)} {r : Result ℕ Unreadable} → One small_limit ws r → Says (codes "strike") ws (told strikes r)
says_strike (the_one h) = says (strike_line h)
says_strike no_one = mute

says_principal : {ws : List (List ℕ)} {r : Result Triple Unreadable} → Three code_limit small_limit small_limit ws r → Says (codes "principal") ws (told_three principal r)
says_principal (the_three f g h) = says (principal_line f g h)
says_principal no_three = mute

says_statement : {ws : List (List ℕ)} {r : Result Triple Unreadable} → Three code_limit small_limit small_limit ws r → Says (codes "statement") ws (told_three statement r)
says_statement (the_three f g h) = says (statement_line f g h)
says_statement no_three = mute

says_file : {ws : List (List ℕ)} {r : Result Triple Unreadable} → Three small_limit code_limit small_limit ws r → Says (codes "file") ws (told_three files r)
says_file (the_three f g h) = says (file_line f g h)
says_file no_three = mute

says_book : (ws : List (List ℕ)) → Says (codes "book") ws (closed lists ws)
says_book [] = says book_line
says_book (w ∷ ws) = mute

module _ {g : List ℕ} {gate : ℕ} (number_of_lem : Number gate_limit g gate) where
  opens_with : {ls bs ws : List (List ℕ)} {sheets : List (List ℕ)} {f : Floor} {r : Result (List Held) Unreadable} → Sheets ls sheets → length sheets ≤ 2 → Base bs f → Ended ws r → Says (codes "open") (g ∷ (ls ++ (bs ++ ws))) (told_held (opens gate sheets f) r)
  opens_with s two b (ended e) = says (open_line number_of_lem s two b e)
  opens_with s two b no_end = mute

  opens_over : {ls ws : List (List ℕ)} {sheets : List (List ℕ)} {r : Result (Part Floor) Unreadable} → Sheets ls sheets → length sheets ≤ 2 → Based ws r → Says (codes "open") (g ∷ (ls ++ ws)) (on r (λ base fs. told_held (opens gate sheets base) (entries fs)))
  opens_over s two (based {after} b) = opens_with s two b (entries_view after)
  opens_over s two no_base = mute

  opens_gate : {ws : List (List ℕ)} {r : Result (Part (List (List ℕ))) Unreadable} → Layered ws r → Says (codes "open") (g ∷ ws) (on r (λ sheets ls. on (floor ls) (λ base fs. told_held (opens gate sheets base) (entries fs))))
  opens_gate (the_layers {after} s two) = opens_over s two (floor_view after)
  opens_gate no_layers = mute

says_open : {ws : List (List ℕ)} {r : Result (Part ℕ) Unreadable} → First gate_limit ws r → Says (codes "open") ws (on r (λ gate gs. on (layers gs) (λ sheets ls. on (floor ls) (λ base fs. told_held (opens gate sheets base) (entries fs)))))
says_open (first {ws} h) = opens_gate h (layers_view ws)
says_open no_first = mute

data Spelled : List ℕ → Option Keyword → Type 0 where
  spells_open : Spelled (codes "open") (Some Open)
  spells_at : Spelled (codes "at") (Some At)
  spells_principal : Spelled (codes "principal") (Some Principal)
  spells_statement : Spelled (codes "statement") (Some Statement)
  spells_file : Spelled (codes "file") (Some File)
  spells_strike : Spelled (codes "strike") (Some Strike)
  spells_book : Spelled (codes "book") (Some Book)
  spells_none : {w : List ℕ} → Spelled w None

-- w spells v, or the next keywords are asked
spelled_or : (w v : List ℕ) (o p : Option Keyword) → Spelled v o → Spelled w p → Spelled w (cond (bytes_eq w v) o p)
spelled_or w v o p s t = cond_both (bytes_eq w v) o p (Spelled w) (λ e. spelt (λ u. Spelled u o) w v e s) (λ e. t)

spelled : (w : List ℕ) → Spelled w (keyword w)
spelled w =
    spelled_or w (codes "open") _ _ spells_open (
    spelled_or w (codes "at") _ _ spells_at (
    spelled_or w (codes "principal") _ _ spells_principal (
    spelled_or w (codes "statement") _ _ spells_statement (
    spelled_or w (codes "file") _ _ spells_file (
    spelled_or w (codes "strike") _ _ spells_strike (
    spelled_or w (codes "book") _ _ spells_book spells_none))))))

answered_says : {w : List ℕ} {ws : List (List ℕ)} {r : Result Said Unreadable} (c : Said) → Says w ws r → answered r ≡ command c → Line (w ∷ ws) c
answered_says {w} {ws} c (says {c = d} l) e = let same : d ≡ c = cc in subst (Line (w ∷ ws)) same l
answered_says c mute e = absurd cc

spoken_says : {w : List ℕ} {o : Option Keyword} (ws : List (List ℕ)) (c : Said) → Spelled w o → spoken_by o ws ≡ command c → Line (w ∷ ws) c
spoken_says ws c spells_open e = answered_says c (says_open (first_view gate_limit ws)) e
spoken_says ws c spells_at e = answered_says c (says_at (one_view gate_limit ws)) e
spoken_says ws c spells_principal e = answered_says c (says_principal (three_view code_limit small_limit small_limit ws)) e
spoken_says ws c spells_statement e = answered_says c (says_statement (three_view code_limit small_limit small_limit ws)) e
spoken_says ws c spells_file e = answered_says c (says_file (three_view small_limit code_limit small_limit ws)) e
spoken_says ws c spells_strike e = answered_says c (says_strike (one_view small_limit ws)) e
spoken_says ws c spells_book e = answered_says c (says_book ws) e
spoken_says ws c spells_none e = absurd cc

-- words that are read as a command are a line that says it
pub sound : (ws : List (List ℕ)) (c : Said) → spoken ws ≡ command c → Line ws c
sound [] c e = absurd cc
sound (w ∷ ws) c e = spoken_says ws c (spelled w) e
