-- The lines of a job: which words make which command. Every number is the value of its digits, within its limit.
--
-- Serials ws ns       the words ws are the serials ns
-- Sheets ws ls        ws are layers `recall SERIAL .. over` with the serials ls, from left to right
-- Base ws f           ws are `ledger RECORDS` or `card`, and f is that book
-- Entry w h           the word w is the entry h, SERIAL:STANDING:ROW
-- Entries ws hs       the words ws are the entries hs
-- Ending ws hs        ws are `with` and the entries hs, at least one, or nothing
-- Line ws c           ws are a command line that says c
-- Hushed line         the line has no word, or its first byte is '#'
-- Exactly line h      h is the command c just where the words of the line are a line that says c, no line says two commands, and h is silence just where the line is hushed
use Rattle.std.specs.Prelude.{◌≡◌, ℕ, ◌≤◌, List, [], ◌∷◌, ◌++◌, length, codes}
use Rattle.job.specs.Books.{Floor, ledger, card, Held, held}
use Rattle.job.specs.Commands.{Said, opens, turns, principal, statement, files, strikes, lists, Heard, silent, command}
use Rattle.job.specs.Limits.{gate_limit, code_limit, small_limit, record_limit, standing_limit}
use Rattle.job.specs.Numbers.{Number}
use Rattle.job.specs.Words.{words}

pub data Serials : List (List ℕ) → List ℕ → Type 0 where
  no_serial : Serials [] []
  serial : {w : List ℕ} {ws : List (List ℕ)} {n : ℕ} {ns : List ℕ} → Number small_limit w n → Serials ws ns → Serials (w ∷ ws) (n ∷ ns)

pub data Sheets : List (List ℕ) → List (List ℕ) → Type 0 where
  bare : Sheets [] []
  over : {ws below : List (List ℕ)} {ns : List ℕ} {ls : List (List ℕ)} → Serials ws ns → Sheets below ls → Sheets (codes "recall" ∷ (ws ++ codes "over" ∷ below)) (ns ∷ ls)

pub data Base : List (List ℕ) → Floor → Type 0 where
  a_ledger : {w : List ℕ} {n : ℕ} → Number record_limit w n → Base (codes "ledger" ∷ w ∷ []) (ledger n)
  a_card : Base (codes "card" ∷ []) card

-- 58 is the colon
pub data Entry : List ℕ → Held → Type 0 where
  parts : {s t r : List ℕ} {serial standing row : ℕ} → Number small_limit s serial → Number standing_limit t standing → 1 ≤ standing → Number small_limit r row → Entry (s ++ 58 ∷ (t ++ 58 ∷ r)) (held serial standing row)

pub data Entries : List (List ℕ) → List Held → Type 0 where
  no_entry : Entries [] []
  one_entry : {w : List ℕ} {ws : List (List ℕ)} {h : Held} {hs : List Held} → Entry w h → Entries ws hs → Entries (w ∷ ws) (h ∷ hs)

pub data Ending : List (List ℕ) → List Held → Type 0 where
  nothing : Ending [] []
  with_entries : {w : List ℕ} {ws : List (List ℕ)} {h : Held} {hs : List Held} → Entries (w ∷ ws) (h ∷ hs) → Ending (codes "with" ∷ w ∷ ws) (h ∷ hs)

pub data Line : List (List ℕ) → Said → Type 0 where
  open_line : {g : List ℕ} {ls bs es : List (List ℕ)} {gate : ℕ} {sheets : List (List ℕ)} {floor : Floor} {hs : List Held} →
      Number gate_limit g gate → Sheets ls sheets → length sheets ≤ 2 → Base bs floor → Ending es hs →
      Line (codes "open" ∷ g ∷ (ls ++ (bs ++ es))) (opens gate sheets floor hs)
  at_line : {g : List ℕ} {gate : ℕ} → Number gate_limit g gate → Line (codes "at" ∷ g ∷ []) (turns gate)
  principal_line : {f x y : List ℕ} {form left right : ℕ} → Number code_limit f form → Number small_limit x left → Number small_limit y right → Line (codes "principal" ∷ f ∷ x ∷ y ∷ []) (principal form left right)
  statement_line : {f x y : List ℕ} {form left right : ℕ} → Number code_limit f form → Number small_limit x left → Number small_limit y right → Line (codes "statement" ∷ f ∷ x ∷ y ∷ []) (statement form left right)
  file_line : {s t r : List ℕ} {serial standing row : ℕ} → Number small_limit s serial → Number code_limit t standing → Number small_limit r row → Line (codes "file" ∷ s ∷ t ∷ r ∷ []) (files serial standing row)
  strike_line : {s : List ℕ} {serial : ℕ} → Number small_limit s serial → Line (codes "strike" ∷ s ∷ []) (strikes serial)
  book_line : Line (codes "book" ∷ []) lists

pub data Hushed : List ℕ → Type 0 where
  wordless : {line : List ℕ} → words line ≡ [] → Hushed line
  comment : {bs : List ℕ} → Hushed (35 ∷ bs)

pub record Exactly (line : List ℕ) (h : Heard) : Type 0 where
  pub says : (c : Said) → h ≡ command c → Line (words line) c
  pub reads : (c : Said) → Line (words line) c → h ≡ command c
  pub single : (c d : Said) → Line (words line) c → Line (words line) d → c ≡ d
  pub hushes : h ≡ silent → Hushed line
  pub hushed : Hushed line → h ≡ silent
