-- Cases worked by hand, as the definitions compute them.
--
-- after_principals g l, after_statements g l    the gate g after naming each (form, x, y) of the list l
-- named_tin         a gate with the names of one tin: Shop, Lab, Shop & Lab and Shop quoting Lab, and ten statements about request 0
-- morning           that gate with rule 4 as serial 1 and the sayings 5 and 6 as serials 2 and 3, in a ledger of three records
-- thirteen_lines    the lines of a proof of request 0 from the three entries
-- Worked            the cases
use Rattle.std.specs.Prelude.{◌≡◌, ℕ, false, List, [], ◌∷◌, length, Ok, Err}
use Rattle.denials.specs.Denials.{denied}
use Rattle.book.specs.Meaning.{empty_book}
use Rattle.rules.specs.declared.line.Line.{Line}
use Rattle.soundness.specs.Rules.{line}
use Rattle.soundness.specs.ProofFiles.{file_of}
use Rattle.gate.specs.Checking.{checking}
use Rattle.gate.specs.State.{State, new_gate, principal_left, statement_call, statement_left, filing, filing_left, striking, striking_left}

abbrev pub after_principals : State → List (ℕ × ℕ × ℕ) → State
after_principals g [] = g
after_principals g (r ∷ rs) = after_principals (principal_left g r.0 r.1 r.2) rs

abbrev pub after_statements : State → List (ℕ × ℕ × ℕ) → State
after_statements g [] = g
after_statements g (r ∷ rs) = after_statements (statement_left g r.0 r.1 r.2) rs

-- 0 Shop, 1 Lab, 2 Shop & Lab, 3 Shop | Lab
abbrev pub principals : List (ℕ × ℕ × ℕ)
principals = (1, 0, 0) ∷ (1, 1, 0) ∷ (2, 0, 1) ∷ (3, 0, 1) ∷ []

-- 0 request 0; 1 Shop & Lab says 0; 2 not 0; 3 1 and 2; 4 not 3; 5 Shop says 0; 6 Lab says 0; 7 Shop says 6; 8 Shop speaks for Shop; 9 Shop | Lab says 0
abbrev pub statements : List (ℕ × ℕ × ℕ)
statements =
    (1, 0, 0) ∷ (4, 2, 0) ∷ (2, 0, 0) ∷ (3, 1, 2) ∷ (2, 3, 0) ∷ (4, 0, 0) ∷ (4, 1, 0) ∷ (4, 0, 6) ∷ (5, 0, 0) ∷ (4, 3, 0) ∷ []

abbrev pub named_tin : State
named_tin = after_statements (after_principals (new_gate 7 (empty_book (λ s. false) 3)) principals) statements

abbrev pub morning : State
morning = filing_left (filing_left (filing_left named_tin 1 1 4) 2 2 5) 3 2 6

-- what Shop & Lab say together about the request holds, so the rule forks; Shop & Lab does not say it at some world, which Shop or Lab links to the start
abbrev pub thirteen_lines : List Line
thirteen_lines =
    line 1 1 0 0 ∷ line 3 1 0 0 ∷ line 5 2 0 0 ∷ line 7 3 0 0 ∷ line 10 0 0 0 ∷
    line 2 2 0 0 ∷ line 6 5 1 0 ∷ line 14 6 4 0 ∷
    line 2 3 0 0 ∷ line 6 5 1 0 ∷ line 14 6 4 0 ∷
    line 3 3 0 0 ∷ line 14 4 0 0 ∷ []

pub record Worked : Type 0 where
  -- all fourteen are named, each under the number that the lists above give it
  pub principals_named : length named_tin.rows.principals ≡ 4
  pub statements_named : length named_tin.rows.statements ≡ 10
  pub named_again : statement_call named_tin 4 3 0 ≡ Ok 9
  -- the ledger of three records is full, and striking makes room
  pub full_ledger : filing morning 4 2 7 ≡ Err (denied 9 4)
  pub struck : striking morning 3 ≡ Ok tt
  pub filed_after_striking : filing (striking_left morning 3) 4 2 7 ≡ Ok tt
  -- request 0 is proved by thirteen lines
  pub proof_length : length (file_of 0 thirteen_lines) ≡ 101
  pub proved : checking morning 4096 4096 4096 (file_of 0 thirteen_lines) ≡ Ok 0
  -- with six places for facts the seventh line finds none
  pub six_facts : checking morning 6 4096 4096 (file_of 0 thirteen_lines) ≡ Err (denied 25 7)
  -- without the lab's saying the ninth line cites nothing
  pub saying_struck : checking (striking_left morning 3) 4096 4096 4096 (file_of 0 thirteen_lines) ≡ Err (denied 23 9)
  -- that Shop speaks for Shop needs no book
  pub for_itself : checking named_tin 4096 4096 4096 (file_of 8 (line 9 0 0 0 ∷ line 15 0 1 0 ∷ [])) ≡ Ok 8
  -- a fact does not clash with itself
  pub no_clash : checking named_tin 4096 4096 4096 (file_of 0 (line 14 0 0 0 ∷ [])) ≡ Err (denied 24 1)
