-- What a gate holds, and what its calls answer and leave.
--
-- State                                  a gate by its number, its rows and what its book means
-- state_of live barred free g            the state of the gate g over a book with this meaning
-- state book g                           the same by the ghost members of the book's trait, as a clause has them under one name
-- new_gate n book                        a gate with the number n, no rows and this book
-- principal_call g f a b                 naming a principal: the answer
-- principal_left g f a b                 the gate afterwards
-- statement_call, statement_left         the same for a statement
-- standing_numbered n                    rule for 1, saying for 2
-- filing g serial standing row           what filing answers: denied 4, standing neither 1 nor 2; denied 5, row not named; then as the book answers
-- filing_left g serial standing row      the gate afterwards
-- striking g serial, striking_left       striking: as the book answers
use Rattle.std.specs.Prelude.{ℕ, Bool, cond, [], is_some, Some, None, Err, Option, Result}
use Rattle.std.specs.List.{slice_get}
use Rattle.denials.specs.declared.denial.Denial.{Denial}
use Rattle.denials.specs.Denials.{denied}
use Rattle.terms.specs.Laws.{principal_name, principal_named, statement_name, statement_named}
use Rattle.terms.specs.Named.{rows_of}
use Rattle.terms.specs.Written.{Rows}
use Rattle.book.specs.declared.entry.Entry.{Entry}
use Rattle.book.specs.declared.entry.Standing.{Standing}
use Rattle.book.specs.Meaning.{Meaning, means, file_answer, file_after, strike_answer, strike_after}
pub use Rattle.book.specs.Standing.{standing_numbered}
use Rattle.gate.specs.declared.gate.Gate.{Gate}

pub record State : Type 0 where
  pub number : ℕ
  pub rows : Rows
  pub book : Meaning

abbrev pub state_of : {X : Type 0} → (X → ℕ → Option Entry) → (X → ℕ → Bool) → (X → ℕ) → Gate X → State
state_of live barred free g =
    record {
      number = g.number;
      rows = rows_of g.names;
      book = means (live g.book) (barred g.book) (free g.book);
    }

abbrev pub state : {X : Type 0} → record { live : X → ℕ → Option Entry; barred : X → ℕ → Bool; free : X → ℕ; behind : X → X → Type 0 } → Gate X → State
state book g = state_of book.live book.barred book.free g

abbrev pub new_gate : ℕ → Meaning → State
new_gate n m = record { number = n; rows = record { principals = []; statements = [] }; book = m }

abbrev pub with_rows : State → Rows → State
with_rows g t = record { number = g.number; rows = t; book = g.book }

abbrev pub with_book : State → Meaning → State
with_book g m = record { number = g.number; rows = g.rows; book = m }

abbrev pub principal_call : State → ℕ → ℕ → ℕ → Result ℕ Denial
principal_call g f a b = principal_name g.rows f a b

abbrev pub principal_left : State → ℕ → ℕ → ℕ → State
principal_left g f a b = with_rows g (principal_named g.rows f a b)

abbrev pub statement_call : State → ℕ → ℕ → ℕ → Result ℕ Denial
statement_call g f a b = statement_name g.rows f a b

abbrev pub statement_left : State → ℕ → ℕ → ℕ → State
statement_left g f a b = with_rows g (statement_named g.rows f a b)

abbrev pub named_row : State → ℕ → Bool
named_row g row = is_some (slice_get g.rows.statements row)

abbrev pub entry_of : ℕ → Standing → ℕ → Entry
entry_of serial standing row = record { serial = serial; standing = standing; row = row }

abbrev pub filing_as : State → ℕ → Option Standing → ℕ → Result (Unit {0}) Denial
filing_as g serial None row = Err (denied 4 0)
filing_as g serial (Some standing) row =
    cond (named_row g row) (file_answer g.book (entry_of serial standing row)) (Err (denied 5 0))

abbrev pub filing_left_as : State → ℕ → Option Standing → ℕ → State
filing_left_as g serial None row = g
filing_left_as g serial (Some standing) row =
    cond (named_row g row) (with_book g (file_after g.book (entry_of serial standing row))) g

abbrev pub filing : State → ℕ → ℕ → ℕ → Result (Unit {0}) Denial
filing g serial standing row = filing_as g serial (standing_numbered standing) row

abbrev pub filing_left : State → ℕ → ℕ → ℕ → State
filing_left g serial standing row = filing_left_as g serial (standing_numbered standing) row

abbrev pub striking : State → ℕ → Result (Unit {0}) Denial
striking g serial = strike_answer g.book serial

abbrev pub striking_left : State → ℕ → State
striking_left g serial = with_book g (strike_after g.book serial)
