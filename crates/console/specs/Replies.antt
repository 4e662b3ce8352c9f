-- What a console answers.
--
-- Reply        an answer: a gate that was opened or made current, a row, done, the live entries, a denial, or why the line is unreadable
use Rattle.std.specs.Prelude.{ℕ, List}
use Rattle.denials.specs.declared.denial.Denial.{Denial}
use Rattle.book.specs.declared.entry.Entry.{Entry}
use Rattle.console.specs.declared.refusal.Fault.{Fault}

pub data Reply : Type 0 where
  opened_gate : ℕ → Reply
  at_gate : ℕ → Reply
  row : ℕ → Reply
  filed : Reply
  struck : Reply
  refused : Denial → Reply
  unreadable : Fault → Reply
  live : List Entry → Reply
