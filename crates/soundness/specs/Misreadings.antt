-- Four misreadings of the calculus that stay out.
--
-- tin                       the rows that they speak of; principals: 0 Shop, 1 Lab, 2 Shop & Lab; statements: 0 pour, a request, 1 Shop says pour, 2 Shop & Lab says pour, 3 Lab says pour, 4 Shop speaks for Lab, 5 pour and pour
-- entry serial standing n   the statement row n, held so under the serial
-- filed es                  the live entries by serial, where just the entries es are live
-- tin_with es               the rows of the tin, where just the entries es are live
-- NeverProved g r           no file keeps the rules with the request r, within whatever limits
-- OneIsNotBoth              where Shop says pour, that Shop & Lab says pour is never proved
-- NotTurnedRound            where Shop speaks for Lab and Lab says pour, that Shop says pour is never proved
-- AtTheStartOnly            where pour is a saying, that Shop says pour is never proved
-- clash                     the line that closes a branch whose fact number 2 is true and its fact number 1 false, of one statement and world
-- closing ls                what walking answers to a proof of "pour and pour" that closes its first branch and goes on with the lines ls; live are the sayings 1, pour, and 2, Shop says pour
-- ClosedIsGone              what stood only on a closed branch cannot be cited on the next one
use Rattle.std.specs.Prelude.{◌≡◌, ℕ, List, [], ◌∷◌, None, Ok, Err, Option, Result}
use Rattle.denials.specs.declared.denial.Denial.{Denial}
use Rattle.denials.specs.Denials.{denied}
use Rattle.terms.specs.declared.row.PrincipalRow.TheVariants.{Atom, Both}
use Rattle.terms.specs.declared.row.StatementRow.TheVariants.{Request, And, Says, SpeaksFor}
use Rattle.terms.specs.Written.{Rows}
use Rattle.book.specs.declared.entry.Entry.{Entry}
use Rattle.book.specs.declared.entry.Standing.{Standing}
use Rattle.book.specs.declared.entry.Standing.TheVariants.{Rule, Saying}
use Rattle.book.specs.Meaning.{with_entry}
use Rattle.rules.specs.declared.line.Line.{Line}
use Rattle.soundness.specs.Given.{Given, given}
use Rattle.soundness.specs.Rules.{line}
use Rattle.soundness.specs.Walking.{Limits, stated, Within}
use Rattle.soundness.specs.ProofFiles.{file_of, walked, Keeps}

abbrev pub tin : Rows
tin =
    record {
      principals = Atom 0 ∷ Atom 1 ∷ Both 0 1 ∷ [];
      statements = Request 0 ∷ Says 0 0 ∷ Says 2 0 ∷ Says 1 0 ∷ SpeaksFor 0 1 ∷ And 0 0 ∷ [];
    }

abbrev pub entry : ℕ → Standing → ℕ → Entry
entry serial standing n = record { serial = serial; standing = standing; row = n }

abbrev pub filed : List Entry → ℕ → Option Entry
filed [] serial = None
filed (e ∷ es) serial = with_entry (filed es) e serial

abbrev pub tin_with : List Entry → Given
tin_with es = given tin (filed es)

abbrev pub NeverProved : Given → ℕ → Type 0
NeverProved g r = (lim : Limits) (bytes : List ℕ) → Keeps g (Within lim) lim.lines bytes r → ⊥

abbrev pub OneIsNotBoth : Type 0
OneIsNotBoth = NeverProved (tin_with (entry 1 Saying 1 ∷ [])) 2

abbrev pub NotTurnedRound : Type 0
NotTurnedRound = NeverProved (tin_with (entry 1 Rule 4 ∷ entry 2 Saying 3 ∷ [])) 1

abbrev pub AtTheStartOnly : Type 0
AtTheStartOnly = NeverProved (tin_with (entry 1 Saying 0 ∷ [])) 1

abbrev pub clash : Line
clash = line 14 2 1 0

-- "pour and pour" false forks, and "pour false" becomes fact number 1 of either branch; on the first, the saying pour becomes number 2
abbrev pub closing : List Line → Result ℕ Denial
closing ls =
    walked (stated 4096 4096 4096) (tin_with (entry 1 Saying 0 ∷ entry 2 Saying 1 ∷ []))
    (file_of 5 (line 5 0 0 0 ∷ line 2 1 0 0 ∷ clash ∷ ls))

pub record ClosedIsGone : Type 0 where
  -- all three lines are accepted; only the second branch is open then
  pub accepted : closing [] ≡ Err (denied 26 3)
  -- the last line once more: on the second branch no fact has the number 2
  pub no_fact : closing (clash ∷ []) ≡ Err (denied 22 4)
  -- and where another saying has got that number, the line does not fit
  pub other_fact : closing (line 2 2 0 0 ∷ clash ∷ []) ≡ Err (denied 24 5)
  -- where pour has got it again, the line is accepted again
  pub cited_again : closing (line 2 1 0 0 ∷ clash ∷ []) ≡ Ok 5
