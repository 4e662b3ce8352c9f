use Rattle.std.proofs.Common.{◌≡◌, true, sym, refl, ap, ◌∙◌, subst}
use Rattle.rules.specs.Fits.{effect}
use Rattle.rules.specs.Shapes.{takes}
use Rattle.soundness.specs.Walking.{Room, roomy, sizes}
use Rattle.citing.specs.Open.{branch_of}
use Rattle.citing.specs.Rests.{given_by}
use Rattle.steps.specs.Tables.{limits_of, forks_of}
use Rattle.steps.specs.Tableaux.{limits}
use Rattle.steps.proofs.Same.{same_tableau}
use Rattle.steps.proofs.Steps.{room_to_move, at_error}
use Rattle.steps.proofs.tableau.Tableau.step.Goals as goal

pub returns-in_err-movement-clause-err : goal.returns-in_err-movement-clause-err
returns-in_err-movement-clause-err g c = at_error c.from_residual.result (same_tableau c.args.self.now _ c.move_of.ensures.unchanged refl refl)

pub returns-then-not-has_room-clause-err : goal.returns-then-not-has_room-clause-err
returns-then-not-has_room-clause-err g c =
    c.has_room.ensures.unchanged ∙ same_tableau c.args.self.now _ c.move_of.ensures.unchanged refl refl

pub make-requires-clause-room : goal.make-requires-clause-room
make-requires-clause-room g c =
    let t = c.args.self.now in
    let given = given_by g.R.Register.live c.args.given.now in
    let s = c.in-Some.shape in
    let m = c.in_ok-movement.movement in
    let branch = c.move_of.ensures.unchanged in
    let free : roomy (limits t) (branch_of t.branch) (forks_of t.forks) (takes s.rule) ≡ true = sym (
    c.if-not-has_room.ensures.answer ∙
    ap (λ b. roomy (limits_of b t.forks) (branch_of b) (forks_of t.forks) c.takes.result) branch ∙
    ap (roomy (limits t) (branch_of t.branch) (forks_of t.forks)) c.takes.ensures.answer
    ) in
    let room = room_to_move (limits t) (branch_of t.branch) (forks_of t.forks) given c.args.line c.args.number s m (sym c.in-Some.ensures.answer) (sym c.in_ok-movement.ensures.answer) free in
    subst (λ u. Room (limits u) (branch_of u.branch) (forks_of u.forks) (sizes (effect m)))
    (sym (c.has_room.ensures.unchanged ∙ same_tableau t _ branch refl refl)) room
