-- A line that the rules allow is walked to its effect.
use Rattle.std.proofs.Common.{◌≡◌, ℕ, ◌+◌, true, eqb, ltb, is_some, Some, Ok, sym, refl, ap, ◌∙◌}
use Rattle.std.specs.List.{slice_get}
use Rattle.std.proofs.lemmas.Bool.{and_from, or_right, eq-eqb, lt-ltb, cond-true}
use Rattle.book.specs.declared.entry.Standing.{Standing}
use Rattle.book.specs.declared.entry.Standing.TheVariants.{Rule, Saying}
use Rattle.rules.specs.declared.branch.Sign.TheVariants.{True, False}
use Rattle.rules.specs.declared.line.Line.{Line}
use Rattle.rules.specs.declared.moves.Operand.TheVariants as operands
use Rattle.rules.specs.declared.moves.Move.{Move}
use Rattle.rules.specs.declared.moves.Move.TheVariants.{AddFact, AddFacts, AddLink, Successor, Through, Apart, ForkFacts, ForkLinks, Close}
use Rattle.rules.specs.declared.rule.Rule.{Rule as Code}
use Rattle.rules.specs.declared.rule.Rule.TheVariants as codes
use Rattle.rules.specs.declared.table.Shape.{Shape}
use Rattle.rules.specs.Branches.{fact, link, other, Branch, Effect}
use Rattle.rules.specs.Fits.{effect}
use Rattle.rules.specs.Shapes.{shaped, takes}
use Rattle.soundness.specs.Given.{Given, Live}
use Rattle.soundness.specs.Rules.{Allows, cite_rule, cite_saying, by_not, and_true, and_false, says_true, says_false, speaks_for_true, speaks_for_false, both_linked, quoting_linked, into_both_left, into_both_right, into_quoting, facts_clash, links_clash}
use Rattle.soundness.specs.Walking.{sizes, line_move, cites, cite_entry, cited}
use Rattle.soundness.proofs.Shaping.{shape_of}

pub record Walks (g : Given) (b : Branch) (l : Line) (e : Effect) (n : ℕ) : Type 0 where
  pub shape : Shape
  pub move : Move
  pub shaped_so : shaped l ≡ Some shape
  pub moves : line_move g b shape l n ≡ Ok move
  pub does : e ≡ effect move
  pub takes_up : takes shape.rule ≡ sizes e

eqb_same : (n : ℕ) → eqb n n ≡ true
eqb_same n = eq-eqb n n refl

module _ (g : Given) (b : Branch) (l : Line) (e : Effect) (n : ℕ) where
  walks : (r : Code) (m : Move) → shaped l ≡ Some (shape_of r) → line_move g b (shape_of r) l n ≡ Ok m → takes (shape_of r).rule ≡ sizes (effect m) → e ≡ effect m → Walks g b l e n
  walks r m so moves takes_up does =
      record { shape = shape_of r; move = m; shaped_so = so; moves = moves; does = does; takes_up = takes_up ∙ ap sizes (sym does) }

  -- the entry that a line cites
  entry_cited : (rule : Code) (standing : Standing) (serial row : ℕ) (live : Live g standing serial row) → cites rule standing ≡ true → cited g rule (operands.Serial serial) ≡ Some (operands.Entry row)
  entry_cited rule standing serial row live fits =
      ap (cite_entry g.rows rule) live.found ∙
      cond-true _ _ _ (and_from _ _ (ap (cites rule) live.stands ∙ fits) (ap (λ k. is_some (slice_get g.rows.statements k)) live.row ∙ ap is_some live.named.1)) ∙
      ap (λ k. Some (operands.Entry k)) live.row

  pub allowed_walks : Allows g b l e → Walks g b l e n
  allowed_walks (cite_rule serial m w is below live does) =
      let world : ltb w b.worlds ≡ true = lt-ltb w b.worlds below in
      let entry = entry_cited codes.CiteRule Rule serial m live refl in
      walks codes.CiteRule (AddFact (fact True m w)) (ap shaped is) (simp (is, world, entry)) refl does
  allowed_walks (cite_saying serial m is live does) =
      let entry = entry_cited codes.CiteSaying Saying serial m live refl in
      walks codes.CiteSaying (AddFact (fact True m 0)) (ap shaped is) (simp (is, entry)) refl does
  allowed_walks (by_not k m s w sign is has row does) =
      walks codes.Not (AddFact (fact (other sign) s w)) (ap shaped is) (simp (is, has, row)) refl does
  allowed_walks (and_true k m s t w is has row does) =
      walks codes.AndTrue (AddFacts (fact True s w) (fact True t w)) (ap shaped is) (simp (is, has, row)) refl does
  allowed_walks (and_false k m s t w is has row does) =
      walks codes.AndFalse (ForkFacts (fact False s w) (fact False t w)) (ap shaped is) (simp (is, has, row)) refl does
  allowed_walks (says_true k j m p s w v is has row linked does) =
      walks codes.SaysTrue (AddFact (fact True s v)) (ap shaped is) (simp (is, has, row, linked, eqb_same)) refl does
  allowed_walks (says_false k m p s w is has row does) =
      walks codes.SaysFalse (Successor (link True p w b.worlds) (fact False s b.worlds)) (ap shaped is) (simp (is, has, row)) refl does
  allowed_walks (speaks_for_true k j m p q w v u is has row linked does) =
      walks codes.SpeaksForTrue (AddLink (link True p v u)) (ap shaped is) (simp (is, has, row, linked, eqb_same)) refl does
  allowed_walks (speaks_for_false k m p q w is has row does) =
      walks codes.SpeaksForFalse (Apart (link True q b.worlds (b.worlds + 1)) (link False p b.worlds (b.worlds + 1))) (ap shaped is) (simp (is, has, row)) refl does
  allowed_walks (both_linked k m p q w v is linked row does) =
      walks codes.BothLinked (ForkLinks (link True p w v) (link True q w v)) (ap shaped is) (simp (is, linked, row)) refl does
  allowed_walks (quoting_linked k m p q w v is linked row does) =
      walks codes.QuotingLinked (Through (link True p w b.worlds) (link True q b.worlds v)) (ap shaped is) (simp (is, linked, row)) refl does
  allowed_walks (into_both_left k m p q w v is linked row does) =
      walks codes.IntoBoth (AddLink (link True m w v)) (ap shaped is) (simp (is, linked, row, eqb_same)) refl does
  allowed_walks (into_both_right k m p q w v is linked row does) =
      let same = or_right (eqb q p) (eqb q q) (eqb_same q) in
      walks codes.IntoBoth (AddLink (link True m w v)) (ap shaped is) (simp (is, linked, row, same)) refl does
  allowed_walks (into_quoting k j m p q w u v is linked on row does) =
      walks codes.IntoQuoting (AddLink (link True m w v)) (ap shaped is) (simp (is, linked, on, row, eqb_same)) refl does
  allowed_walks (facts_clash k j m w is has lacks does) =
      walks codes.FactsClash Close (ap shaped is) (simp (is, has, lacks, eqb_same)) refl does
  allowed_walks (links_clash k j m w v is linked lacks does) =
      walks codes.LinksClash Close (ap shaped is) (simp (is, linked, lacks, eqb_same)) refl does
