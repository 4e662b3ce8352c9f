-- What an answer of the computed walk was made of: each stage that goes on had something to go on with.
use Rattle.std.proofs.Common.{◌≡◌, ℕ, Bool, true, false, cond, Some, None, Ok, Err, Option, Result, refl}
use Rattle.std.specs.Bool.{then_some}
use Rattle.std.specs.List.{slice_get}
use Rattle.std.specs.Option.{ok_or}
use Rattle.denials.specs.declared.denial.Denial.{Denial}
use Rattle.terms.specs.declared.row.PrincipalRow.{PrincipalRow}
use Rattle.terms.specs.declared.row.PrincipalRow.TheVariants.{Both, Quoting}
use Rattle.terms.specs.declared.row.StatementRow.{StatementRow}
use Rattle.terms.specs.declared.row.StatementRow.TheVariants.{Not, And, Says, SpeaksFor}
use Rattle.rules.specs.declared.branch.Fact.{Fact}
use Rattle.rules.specs.declared.branch.Link.{Link}
use Rattle.rules.specs.declared.branch.Sign.{Sign}
use Rattle.rules.specs.declared.branch.Sign.TheVariants.{True, False}
use Rattle.rules.specs.declared.moves.Operand.{Operand}
use Rattle.rules.specs.declared.moves.Operand.TheVariants as operands
use Rattle.rules.specs.Fits.{as_fact, as_link, as_row, as_not, as_and, as_says, as_speaks_for, as_both, as_quoting, in_row, if_true, if_false}
use Rattle.soundness.specs.Given.{Given}
use Rattle.soundness.specs.Walking.{on, further, cite_fact, cite_link, cite_row}

module _ {X Y : Type 0} where
  pub on_some : (d : Denial) (o : Option X) (k : X → Result Y Denial) (y : Y) → on d o k ≡ Ok y → (x : X) × ((o ≡ Some x) × (k x ≡ Ok y))
  on_some d None k y e = cc
  on_some d (Some x) k y e = (x, (refl, e))

  pub further_ok : (r : Result X Denial) (k : X → Result Y Denial) (y : Y) → further r k ≡ Ok y → (x : X) × ((r ≡ Ok x) × (k x ≡ Ok y))
  further_ok (Err d) k y e = cc
  further_ok (Ok x) k y e = (x, (refl, e))

module _ {X : Type 0} where
  pub cond_ok : (b : Bool) (r : Result X Denial) (d : Denial) (x : X) → cond b r (Err d) ≡ Ok x → (b ≡ true) × (r ≡ Ok x)
  cond_ok true r d x e = (refl, e)
  cond_ok false r d x e = cc

  pub ok_or_ok : (o : Option X) (d : Denial) (x : X) → ok_or o d ≡ Ok x → o ≡ Some x
  ok_or_ok None d x e = cc
  ok_or_ok (Some y) d x e = cc

  pub test_some : (b : Bool) (x y : X) → then_some b x ≡ Some y → (b ≡ true) × (x ≡ y)
  test_some true x y e = (refl, cc)
  test_some false x y e = cc

  pub true_some : (s : Sign) (o : Option X) (x : X) → if_true s o ≡ Some x → (s ≡ True) × (o ≡ Some x)
  true_some True o x e = (refl, e)
  true_some False o x e = cc

  pub false_some : (s : Sign) (o : Option X) (x : X) → if_false s o ≡ Some x → (s ≡ False) × (o ≡ Some x)
  false_some True o x e = cc
  false_some False o x e = (refl, e)

  pub row_some : (r : Option PrincipalRow) (k : PrincipalRow → Option X) (x : X) → in_row r k ≡ Some x → (p : PrincipalRow) × ((r ≡ Some p) × (k p ≡ Some x))
  row_some None k x e = cc
  row_some (Some p) k x e = (p, (refl, e))

  pub fact_some : (o : Operand) (k : Fact → Option StatementRow → Option X) (x : X) → as_fact o k ≡ Some x → (f : Fact) × ((r : Option StatementRow) × ((o ≡ operands.Fact f r) × (k f r ≡ Some x)))
  fact_some (operands.Fact f r) k x e = (f, (r, (refl, e)))
  fact_some _ k x e = cc

  pub link_some : (o : Operand) (k : Link → Option PrincipalRow → Option X) (x : X) → as_link o k ≡ Some x → (l : Link) × ((r : Option PrincipalRow) × ((o ≡ operands.Link l r) × (k l r ≡ Some x)))
  link_some (operands.Link l r) k x e = (l, (r, (refl, e)))
  link_some _ k x e = cc

  pub named_some : (o : Operand) (k : ℕ → PrincipalRow → Option X) (x : X) → as_row o k ≡ Some x → (m : ℕ) × ((r : PrincipalRow) × ((o ≡ operands.Row m r) × (k m r ≡ Some x)))
  named_some (operands.Row m r) k x e = (m, (r, (refl, e)))
  named_some _ k x e = cc

  pub not_some : (r : Option StatementRow) (k : ℕ → Option X) (x : X) → as_not r k ≡ Some x → (s : ℕ) × ((r ≡ Some (Not s)) × (k s ≡ Some x))
  not_some (Some (Not s)) k x e = (s, (refl, e))
  not_some _ k x e = cc

  pub and_some : (r : Option StatementRow) (k : ℕ → ℕ → Option X) (x : X) → as_and r k ≡ Some x → (s : ℕ) × ((t : ℕ) × ((r ≡ Some (And s t)) × (k s t ≡ Some x)))
  and_some (Some (And s t)) k x e = (s, (t, (refl, e)))
  and_some _ k x e = cc

  pub says_some : (r : Option StatementRow) (k : ℕ → ℕ → Option X) (x : X) → as_says r k ≡ Some x → (p : ℕ) × ((s : ℕ) × ((r ≡ Some (Says p s)) × (k p s ≡ Some x)))
  says_some (Some (Says p s)) k x e = (p, (s, (refl, e)))
  says_some _ k x e = cc

  pub speaks_some : (r : Option StatementRow) (k : ℕ → ℕ → Option X) (x : X) → as_speaks_for r k ≡ Some x → (p : ℕ) × ((q : ℕ) × ((r ≡ Some (SpeaksFor p q)) × (k p q ≡ Some x)))
  speaks_some (Some (SpeaksFor p q)) k x e = (p, (q, (refl, e)))
  speaks_some _ k x e = cc

  pub both_some : (r : PrincipalRow) (k : ℕ → ℕ → Option X) (x : X) → as_both r k ≡ Some x → (p : ℕ) × ((q : ℕ) × ((r ≡ Both p q) × (k p q ≡ Some x)))
  both_some (Both p q) k x e = (p, (q, (refl, e)))
  both_some _ k x e = cc

  pub quoting_some : (r : PrincipalRow) (k : ℕ → ℕ → Option X) (x : X) → as_quoting r k ≡ Some x → (p : ℕ) × ((q : ℕ) × ((r ≡ Quoting p q) × (k p q ≡ Some x)))
  quoting_some (Quoting p q) k x e = (p, (q, (refl, e)))
  quoting_some _ k x e = cc

-- what an operand cites
module _ (g : Given) (o : Operand) where
  pub fact_cited : (found : Option Fact) → cite_fact g.rows found ≡ Some o → (f : Fact) × ((found ≡ Some f) × (o ≡ operands.Fact f (slice_get g.rows.statements f.row)))
  fact_cited None e = cc
  fact_cited (Some f) e = (f, (refl, cc))

  pub link_cited : (found : Option Link) → cite_link g.rows found ≡ Some o → (l : Link) × ((found ≡ Some l) × (o ≡ operands.Link l (slice_get g.rows.principals l.row)))
  link_cited None e = cc
  link_cited (Some l) e = (l, (refl, cc))

  pub row_cited : (n : ℕ) (found : Option PrincipalRow) → cite_row n found ≡ Some o → (r : PrincipalRow) × ((found ≡ Some r) × (o ≡ operands.Row n r))
  row_cited n None e = cc
  row_cited n (Some r) e = (r, (refl, cc))
