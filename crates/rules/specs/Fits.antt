-- Whether what a line cites fits its rule, computed.
--
-- as_fact o k, as_link o k, ..   goes on with the fact, link, world, row or entry that the operand o cites; nothing if it cites something else
-- as_not r k, as_and r k, ..     goes on with the parts of the row r; nothing if it has another form
-- if_true s x, if_false s x      x, if the sign is true, or false
-- fits rule a b c v u            what a line of the rule does with what its operands cite, where the next two worlds would be v and u; nothing if the needs of the rule do not fit
-- effect m                       the move m as an effect on a branch
use Rattle.std.specs.Bool.{then_some}
use Rattle.std.specs.Prelude.{ℕ, ◌&&◌, ◌||◌, [], ◌∷◌, Some, None, Option, ◌==◌}
use Rattle.terms.specs.declared.row.PrincipalRow.{PrincipalRow}
use Rattle.terms.specs.declared.row.PrincipalRow.TheVariants.{Both, Quoting}
use Rattle.terms.specs.declared.row.StatementRow.{StatementRow}
use Rattle.terms.specs.declared.row.StatementRow.TheVariants.{Not, And, Says, SpeaksFor}
use Rattle.rules.specs.declared.branch.Fact.{Fact}
use Rattle.rules.specs.declared.branch.Link.{Link}
use Rattle.rules.specs.declared.branch.Side.TheVariants as sides
use Rattle.rules.specs.declared.branch.Sign.{Sign}
use Rattle.rules.specs.declared.branch.Sign.TheVariants.{True, False}
use Rattle.rules.specs.declared.moves.Move.{Move}
use Rattle.rules.specs.declared.moves.Move.TheVariants.{AddFact, AddFacts, AddLink, Successor, Through, Apart, ForkFacts, ForkLinks, Close}
use Rattle.rules.specs.declared.moves.Operand.{Operand}
use Rattle.rules.specs.declared.moves.Operand.TheVariants as operands
use Rattle.rules.specs.declared.rule.Rule.{Rule}
use Rattle.rules.specs.declared.rule.Rule.TheVariants as rules
use Rattle.rules.specs.Branches.{fact, link, other, Effect, adds, forks, closes}

abbrev pub as_fact : {X : Type 0} → Operand → (Fact → Option StatementRow → Option X) → Option X
as_fact (operands.Fact f r) k = k f r
as_fact _ k = None

abbrev pub as_link : {X : Type 0} → Operand → (Link → Option PrincipalRow → Option X) → Option X
as_link (operands.Link l r) k = k l r
as_link _ k = None

abbrev pub as_world : {X : Type 0} → Operand → (ℕ → Option X) → Option X
as_world (operands.World w) k = k w
as_world _ k = None

abbrev pub as_row : {X : Type 0} → Operand → (ℕ → PrincipalRow → Option X) → Option X
as_row (operands.Row n r) k = k n r
as_row _ k = None

abbrev pub as_not : {X : Type 0} → Option StatementRow → (ℕ → Option X) → Option X
as_not (Some (Not s)) k = k s
as_not _ k = None

abbrev pub as_and : {X : Type 0} → Option StatementRow → (ℕ → ℕ → Option X) → Option X
as_and (Some (And s t)) k = k s t
as_and _ k = None

abbrev pub as_says : {X : Type 0} → Option StatementRow → (ℕ → ℕ → Option X) → Option X
as_says (Some (Says p s)) k = k p s
as_says _ k = None

abbrev pub as_speaks_for : {X : Type 0} → Option StatementRow → (ℕ → ℕ → Option X) → Option X
as_speaks_for (Some (SpeaksFor p q)) k = k p q
as_speaks_for _ k = None

abbrev pub as_both : {X : Type 0} → PrincipalRow → (ℕ → ℕ → Option X) → Option X
as_both (Both p q) k = k p q
as_both _ k = None

abbrev pub as_quoting : {X : Type 0} → PrincipalRow → (ℕ → ℕ → Option X) → Option X
as_quoting (Quoting p q) k = k p q
as_quoting _ k = None

abbrev pub in_row : {X : Type 0} → Option PrincipalRow → (PrincipalRow → Option X) → Option X
in_row None k = None
in_row (Some r) k = k r

abbrev pub if_true : {X : Type 0} → Sign → Option X → Option X
if_true True x = x
if_true False x = None

abbrev pub if_false : {X : Type 0} → Sign → Option X → Option X
if_false True x = None
if_false False x = x

-- a line that cites a fact f first, whose statement row is r
abbrev pub fits_fact : Rule → Fact → Option StatementRow → Operand → ℕ → ℕ → Option Move
fits_fact rules.Not f r b v u = as_not r (λ s. Some (AddFact (fact (other f.sign) s f.world)))
fits_fact rules.AndTrue f r b v u =
    if_true f.sign (as_and r (λ s t. Some (AddFacts (fact True s f.world) (fact True t f.world))))
fits_fact rules.AndFalse f r b v u =
    if_false f.sign (as_and r (λ s t. Some (ForkFacts (fact False s f.world) (fact False t f.world))))
fits_fact rules.SaysTrue f r b v u =
    if_true f.sign (as_says r (λ p s. as_link b (λ l _. if_true l.sign (then_some (l.row == p && l.from == f.world) (AddFact (fact True s l.to))))))
fits_fact rules.SaysFalse f r b v u =
    if_false f.sign (as_says r (λ p s. Some (Successor (link True p f.world v) (fact False s v))))
fits_fact rules.SpeaksForTrue f r b v u =
    if_true f.sign (as_speaks_for r (λ p q. as_link b (λ l _. if_true l.sign (then_some (l.row == q) (AddLink (link True p l.from l.to))))))
fits_fact rules.SpeaksForFalse f r b v u =
    if_false f.sign (as_speaks_for r (λ p q. Some (Apart (link True q v u) (link False p v u))))
fits_fact rules.FactsClash f r b v u =
    if_true f.sign (as_fact b (λ g _. if_false g.sign (then_some (f.row == g.row && f.world == g.world) Close)))
fits_fact _ f r b v u = None

-- a line that cites a link l first, whose principal row is r
abbrev pub fits_link : Rule → Link → Option PrincipalRow → Operand → Operand → ℕ → Option Move
fits_link rules.BothLinked l r b c v =
    if_true l.sign (in_row r (λ row. as_both row (λ p q. Some (ForkLinks (link True p l.from l.to) (link True q l.from l.to)))))
fits_link rules.QuotingLinked l r b c v =
    if_true l.sign (in_row r (λ row. as_quoting row (λ p q. Some (Through (link True p l.from v) (link True q v l.to)))))
fits_link rules.IntoBoth l r b c v =
    if_true l.sign (as_row b (λ whole row. as_both row (λ p q. then_some (l.row == p || l.row == q) (AddLink (link True whole l.from l.to)))))
fits_link rules.IntoQuoting l r b c v =
    if_true l.sign (as_link b (λ k _. if_true k.sign (as_row c (λ whole row. as_quoting row (λ p q.
    then_some (l.row == p && (k.row == q && l.to == k.from)) (AddLink (link True whole l.from k.to)))))))
fits_link rules.LinksClash l r b c v =
    if_true l.sign (as_link b (λ k _. if_false k.sign (then_some (l.row == k.row && (l.from == k.from && l.to == k.to)) Close)))
fits_link _ l r b c v = None

-- a line that cites a live entry
abbrev pub fits_entry : Rule → ℕ → Operand → Option Move
fits_entry rules.CiteRule n b = as_world b (λ w. Some (AddFact (fact True n w)))
fits_entry rules.CiteSaying n b = Some (AddFact (fact True n 0))
fits_entry _ n b = None

abbrev pub fits : Rule → Operand → Operand → Operand → ℕ → ℕ → Option Move
fits rule (operands.Fact f r) b c v u = fits_fact rule f r b v u
fits rule (operands.Link l r) b c v u = fits_link rule l r b c v
fits rule (operands.Entry n) b c v u = fits_entry rule n b
fits rule _ b c v u = None

abbrev pub effect : Move → Effect
effect (AddFact f) = adds 0 (f ∷ []) []
effect (AddFacts f g) = adds 0 (f ∷ g ∷ []) []
effect (AddLink l) = adds 0 [] (l ∷ [])
effect (Successor l f) = adds 1 (f ∷ []) (l ∷ [])
effect (Through l m) = adds 1 [] (l ∷ m ∷ [])
effect (Apart l m) = adds 2 [] (l ∷ m ∷ [])
effect (ForkFacts f g) = forks (sides.Fact f) (sides.Fact g)
effect (ForkLinks l m) = forks (sides.Link l) (sides.Link m)
effect Close = closes
