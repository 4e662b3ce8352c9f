-- The state of a walk.
--
-- limits t               the limits of a walk with the tables of t
-- progress t             how far the proof has come
-- SameTables t u         t and u are lent the same slices
-- stepped lim g p l n    how far the proof has come after one more line, number n; denied 20 if it was complete, else 21 to 25
use Rattle.std.specs.Prelude.{ℕ, cond, Err, Result}
use Rattle.trail.specs.Trails.{SamePlaces}
use Rattle.denials.specs.declared.denial.Denial.{Denial}
use Rattle.denials.specs.Denials.{denied}
use Rattle.rules.specs.declared.line.Line.{Line}
use Rattle.rules.specs.Branches.{Progress, going, complete}
use Rattle.soundness.specs.Given.{Given}
use Rattle.soundness.specs.Walking.{Limits, line_walked}
use Rattle.citing.specs.Open.{branch_of}
use Rattle.steps.specs.declared.tableau.Tableau.{Tableau}
use Rattle.steps.specs.Tables.{SameBranch, limits_of, forks_of}

abbrev pub limits : Tableau → Limits
limits t = limits_of t.branch t.forks

abbrev pub progress : Tableau → Progress
progress t = cond t.complete complete (going (branch_of t.branch) (forks_of t.forks))

pub record SameTables (t u : Tableau) : Type 0 where
  pub branch : SameBranch t.branch u.branch
  pub forks : SamePlaces t.forks.places u.forks.places

abbrev pub stepped : Limits → Given → Progress → Line → ℕ → Result Progress Denial
stepped lim g complete l n = Err (denied 20 n)
stepped lim g (going b fs) l n = line_walked lim g b fs l n
