-- What a gate is asked by a line, what comes of it, and what is answered.
--
-- reply r              the answer or the refusal r as a value
-- named_reply r        what is answered to a naming: the row, or the denial
-- done_reply yes r     what is answered to a filing or a striking
-- Lists es r           r lists the entries es, or there is no memory for the list
-- Replies deed g r     r is what the deed answers at a gate in the state g
-- deed_left deed g     the state afterwards
use Rattle.std.specs.Prelude.{◌≡◌, ℕ, List, Ok, Err, vec_items, Result}
use Rattle.denials.specs.declared.denial.Denial.{Denial}
use Rattle.book.specs.declared.entry.Entry.{Entry}
use Rattle.gate.specs.State.{State, principal_call, principal_left, statement_call, statement_left, filing, filing_left, striking, striking_left}
use Rattle.console.specs.declared.answer.Answer.{Answer}
use Rattle.console.specs.declared.answer.Answer.TheVariants as answers
use Rattle.console.specs.declared.refusal.Fault.{Fault}
use Rattle.console.specs.declared.refusal.Fault.TheVariants as faults
use Rattle.console.specs.declared.refusal.Refusal.{Refusal}
use Rattle.console.specs.declared.refusal.Refusal.TheVariants as refusals
use Rattle.job.specs.declared.command.Deed.{Deed}
use Rattle.job.specs.declared.command.Deed.TheVariants.{Principal, Statement, File, Strike, List as Listing}
use Rattle.gate.specs.Listings.{all_live}
use Rattle.console.specs.Replies.{Reply, opened_gate, at_gate, row, filed, struck, refused, unreadable, live}

abbrev pub reply : Result Answer Refusal → Reply
reply (Ok (answers.Opened g)) = opened_gate g
reply (Ok (answers.At g)) = at_gate g
reply (Ok (answers.Row n)) = row n
reply (Ok answers.Filed) = filed
reply (Ok answers.Struck) = struck
reply (Ok (answers.Live es)) = live (vec_items es)
reply (Err (refusals.Denied d)) = refused d
reply (Err (refusals.Unreadable f)) = unreadable f

abbrev pub named_reply : Result ℕ Denial → Reply
named_reply (Ok n) = row n
named_reply (Err d) = refused d

abbrev pub done_reply : Reply → Result (Unit {0}) Denial → Reply
done_reply yes' (Ok u) = yes'
done_reply yes' (Err d) = refused d

abbrev pub OutOfMemory : Fault → Type 0
OutOfMemory (faults.Line e) = ⊥
OutOfMemory faults.NoGate = ⊥
OutOfMemory faults.OpenAlready = ⊥
OutOfMemory faults.NotOpen = ⊥
OutOfMemory faults.NinthGate = ⊥
OutOfMemory faults.NoMemory = Unit {0}

abbrev pub Lists : List Entry → Reply → Type 0
Lists es (opened_gate g) = ⊥
Lists es (at_gate g) = ⊥
Lists es (row n) = ⊥
Lists es filed = ⊥
Lists es struck = ⊥
Lists es (refused d) = ⊥
Lists es (unreadable f) = OutOfMemory f
Lists es (live l) = l ≡ es

abbrev pub Replies : Deed → State → Reply → Type 0
Replies (Principal n) g r = r ≡ named_reply (principal_call g n.form n.x n.y)
Replies (Statement n) g r = r ≡ named_reply (statement_call g n.form n.x n.y)
Replies (File serial standing n) g r = r ≡ done_reply filed (filing g serial standing n)
Replies (Strike serial) g r = r ≡ done_reply struck (striking g serial)
Replies Listing g r = Lists (all_live g.book.live) r

abbrev pub deed_left : Deed → State → State
deed_left (Principal n) g = principal_left g n.form n.x n.y
deed_left (Statement n) g = statement_left g n.form n.x n.y
deed_left (File serial standing n) g = filing_left g serial standing n
deed_left (Strike serial) g = striking_left g serial
deed_left Listing g = g
