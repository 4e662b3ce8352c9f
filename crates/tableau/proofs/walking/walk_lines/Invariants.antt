use Rattle.std.proofs.Common.{◌≡◌, map, drop}
use Rattle.soundness.specs.Walking.{lines_walked}
use Rattle.citing.specs.Rests.{given_by}
use Rattle.steps.specs.Tableaux.{SameTables, limits, progress}
use Rattle.tableau.specs.Lines.{line_of}
use Rattle.tableau.proofs.walking.walk_lines.Given as goal

-- what is still to be walked gives the answer of the whole walk
abbrev pub invariant-loop-i : goal.invariant-loop-i
invariant-loop-i g l =
    let lim = limits l.initial.tableau in
    let given = given_by g.R.Register.live l.given in
    record {
      same : SameTables l.initial.tableau l.tableau;
      ahead : lines_walked lim given l.i (progress l.tableau) (map line_of (drop l.i l.lines)) ≡ lines_walked lim given 0 (progress l.initial.tableau) (map line_of l.lines);
    }
