-- A line that is walked is allowed by the rules.
use Rattle.std.proofs.Common.{◌≡◌, ℕ, ◌+◌, true, ◌&&◌, eqb, [], ◌∷◌, is_some, Some, None, Ok, Option, sym, refl, ap, ◌∙◌, subst, inl, inr, arith}
use Rattle.std.specs.List.{slice_get}
use Rattle.std.proofs.lemmas.Bool.{and_parts, or_cases, eqb-true, ltb-true}
use Rattle.std.proofs.lemmas.Bool.Decides.{nat_tests}
use Rattle.std.proofs.lemmas.Option.{same_Some, cond_some}
use Rattle.denials.specs.Denials.{denied}
use Rattle.terms.specs.declared.row.PrincipalRow.{PrincipalRow}
use Rattle.terms.specs.declared.row.StatementRow.{StatementRow}
use Rattle.book.specs.declared.entry.Entry.{Entry}
use Rattle.book.specs.declared.entry.Standing.{Standing}
use Rattle.book.specs.declared.entry.Standing.TheVariants.{Rule, Saying}
use Rattle.rules.specs.declared.branch.Fact.{Fact}
use Rattle.rules.specs.declared.branch.Link.{Link}
use Rattle.rules.specs.declared.branch.Sign.{Sign}
use Rattle.rules.specs.declared.branch.Sign.TheVariants.{True, False}
use Rattle.rules.specs.declared.line.Line.{Line}
use Rattle.rules.specs.declared.line.Use.TheVariants as uses
use Rattle.rules.specs.declared.moves.Move.{Move}
use Rattle.rules.specs.declared.moves.Operand.{Operand}
use Rattle.rules.specs.declared.moves.Operand.TheVariants as operands
use Rattle.rules.specs.declared.rule.Rule.{Rule as Code}
use Rattle.rules.specs.declared.rule.Rule.TheVariants as codes
use Rattle.rules.specs.declared.table.Shape.{Shape}
use Rattle.rules.specs.Branches.{fact, link, Branch, adds}
use Rattle.rules.specs.Fits.{fits_fact, fits_link, fits, effect}
use Rattle.rules.specs.Shapes.{shaped}
use Rattle.soundness.specs.Given.{Given, Live}
use Rattle.soundness.specs.Rules.{line, HasFact, HasLink, Allows, cite_rule, cite_saying, by_not, and_true, and_false, says_true, says_false, speaks_for_true, speaks_for_false, both_linked, quoting_linked, into_both_left, into_both_right, into_quoting, facts_clash, links_clash}
use Rattle.soundness.specs.Walking.{operand, cites, cite_entry, cited, line_move}
use Rattle.soundness.proofs.Inversions.{on_some, ok_or_ok, test_some, true_some, false_some, row_some, fact_some, link_some, named_some, not_some, and_some, says_some, speaks_some, both_some, quoting_some, fact_cited, link_cited, row_cited}
use Rattle.soundness.proofs.Shaping.{code, shape_of, Shaped, shaped_so}

-- what the operands of a line cite, where it does the move m
pub record Operands (g : Given) (b : Branch) (s : Shape) (l : Line) (m : Move) : Type 0 where
  pub x : Operand
  pub y : Operand
  pub z : Operand
  pub o : Operand
  pub first : operand g.rows b s.a l.a ≡ Some x
  pub second : operand g.rows b s.b l.b ≡ Some y
  pub third : operand g.rows b s.c l.c ≡ Some z
  pub entry : cited g s.rule x ≡ Some o
  pub fit : fits s.rule o y z b.worlds (b.worlds + 1) ≡ Some m

pub move_cited : (g : Given) (b : Branch) (s : Shape) (l : Line) (n : ℕ) (m : Move) → line_move g b s l n ≡ Ok m → Operands g b s l m
move_cited g b s l n m e =
    let (x, (first, e₁)) = on_some (denied 22 n) (operand g.rows b s.a l.a) _ m e in
    let (y, (second, e₂)) = on_some (denied 22 n) (operand g.rows b s.b l.b) _ m e₁ in
    let (z, (third, e₃)) = on_some (denied 22 n) (operand g.rows b s.c l.c) _ m e₂ in
    let (o, (entry, e₄)) = on_some (denied 23 n) (cited g s.rule x) _ m e₃ in
    record { x = x; y = y; z = z; o = o; first = first; second = second; third = third; entry = entry; fit = ok_or_ok _ (denied 24 n) m e₄ }

-- two or three tests of equal numbers
same_two : (a b c d : ℕ) → (eqb a b && eqb c d) ≡ true → (a ≡ b) × (c ≡ d)
same_two a b c d e = grind (arith, nat_tests)

same_three : (a b c d n m : ℕ) → (eqb a b && (eqb c d && eqb n m)) ≡ true → (a ≡ b) × ((c ≡ d) × (n ≡ m))
same_three a b c d n m e = grind (arith, nat_tests)

line_is : (l : Line) (k a b c : ℕ) → l.code ≡ k → l.a ≡ a → l.b ≡ b → l.c ≡ c → l ≡ line k a b c
line_is l k a b c p q r s = λ i. record { code = p i; a = q i; b = r i; c = s i }

-- the entry that a serial names
entry_live : (g : Given) (rule : Code) (standing : Standing) (serial : ℕ) (o : Operand) → ((s : Standing) → cites rule s ≡ true → s ≡ standing) → cited g rule (operands.Serial serial) ≡ Some o → (n : ℕ) × ((o ≡ operands.Entry n) × Live g standing serial n)
entry_live g rule standing serial o only e = go (g.live serial) refl e
  where
    named : (row : Option StatementRow) → is_some row ≡ true → (r : StatementRow) × (row ≡ Some r)
    named None h = cc
    named (Some r) h = (r, refl)

    go : (entry : Option Entry) → g.live serial ≡ entry → cite_entry g.rows rule entry ≡ Some o → (n : ℕ) × ((o ≡ operands.Entry n) × Live g standing serial n)
    go None at found = cc
    go (Some e) at found =
        let tested = cond_some _ (operands.Entry e.row) o found in
        let parts = and_parts (cites rule e.standing) _ tested.0 in
        (e.row, (sym tested.1, record { entry = e; found = at; stands = only e.standing parts.0; row = refl; named = named _ parts.1 }))

only_rules : (s : Standing) → cites codes.CiteRule s ≡ true → s ≡ Rule
only_rules Rule h = refl
only_rules Saying h = cc

only_sayings : (s : Standing) → cites codes.CiteSaying s ≡ true → s ≡ Saying
only_sayings Rule h = cc
only_sayings Saying h = refl

module _ (g : Given) (b : Branch) (l : Line) (m : Move) where
  abbrev v : ℕ
  v = b.worlds

  abbrev u : ℕ
  u = b.worlds + 1

  -- the fact, the link or the entry that is cited first, and what then fits
  first_fact : (s : Shape) → s.a ≡ uses.Fact → (c : Operands g b s l m) → (f : Fact) × ((slice_get b.facts l.a ≡ Some f) × (fits_fact s.rule f (slice_get g.rows.statements f.row) c.y v u ≡ Some m))
  first_fact s used c =
      let f = fact_cited g c.x (slice_get b.facts l.a) (subst (λ t. operand g.rows b t l.a ≡ Some c.x) used c.first) in
      let same : c.o ≡ operands.Fact f.0 (slice_get g.rows.statements f.0.row) = same_Some _ _ (sym c.entry ∙ ap (cited g s.rule) f.1.1) in
      (f.0, (f.1.0, subst (λ o. fits s.rule o c.y c.z v u ≡ Some m) same c.fit))

  first_link : (s : Shape) → s.a ≡ uses.Link → (c : Operands g b s l m) → (k : Link) × ((slice_get b.links l.a ≡ Some k) × (fits_link s.rule k (slice_get g.rows.principals k.row) c.y c.z v ≡ Some m))
  first_link s used c =
      let k = link_cited g c.x (slice_get b.links l.a) (subst (λ t. operand g.rows b t l.a ≡ Some c.x) used c.first) in
      let same : c.o ≡ operands.Link k.0 (slice_get g.rows.principals k.0.row) = same_Some _ _ (sym c.entry ∙ ap (cited g s.rule) k.1.1) in
      (k.0, (k.1.0, subst (λ o. fits s.rule o c.y c.z v u ≡ Some m) same c.fit))

  first_entry : (s : Shape) (standing : Standing) → s.a ≡ uses.Serial → ((t : Standing) → cites s.rule t ≡ true → t ≡ standing) → (c : Operands g b s l m) → (n : ℕ) × (Live g standing l.a n × (fits s.rule (operands.Entry n) c.y c.z v u ≡ Some m))
  first_entry s standing used only c =
      let serial : operands.Serial l.a ≡ c.x = same_Some _ _ (subst (λ t. operand g.rows b t l.a ≡ Some c.x) used c.first) in
      let n = entry_live g s.rule standing l.a c.o only (ap (cited g s.rule) serial ∙ c.entry) in
      (n.0, (n.1.1, subst (λ o. fits s.rule o c.y c.z v u ≡ Some m) n.1.0 c.fit))

  -- what is cited by another operand
  fact_at : (n : ℕ) (y : Operand) (f : Fact) (r : Option StatementRow) → operand g.rows b uses.Fact n ≡ Some y → y ≡ operands.Fact f r → slice_get b.facts n ≡ Some f
  fact_at n y f r found is =
      let at = fact_cited g y (slice_get b.facts n) found in
      let same : at.0 ≡ f = (let both = sym at.1.1 ∙ is in cc) in
      at.1.0 ∙ ap Some same

  link_at : (n : ℕ) (y : Operand) (k : Link) (r : Option PrincipalRow) → operand g.rows b uses.Link n ≡ Some y → y ≡ operands.Link k r → slice_get b.links n ≡ Some k
  link_at n y k r found is =
      let at = link_cited g y (slice_get b.links n) found in
      let same : at.0 ≡ k = (let both = sym at.1.1 ∙ is in cc) in
      at.1.0 ∙ ap Some same

  row_at : (n : ℕ) (y : Operand) (k : ℕ) (r : PrincipalRow) → operand g.rows b uses.Row n ≡ Some y → y ≡ operands.Row k r → (k ≡ n) × (slice_get g.rows.principals n ≡ Some r)
  row_at n y k r found is =
      let at = row_cited g y n (slice_get g.rows.principals n) found in
      let both = sym at.1.1 ∙ is in
      let same : at.0 ≡ r = cc in
      let number : k ≡ n = cc in
      (number, at.1.0 ∙ ap Some same)

  -- what is found is a fact or a link with these fields
  has_fact : (k : ℕ) (f : Fact) (sign : Sign) (n w : ℕ) → slice_get b.facts k ≡ Some f → f.sign ≡ sign → f.row ≡ n → f.world ≡ w → HasFact b k sign n w
  has_fact k f sign n w at p q r =
      let is : f ≡ fact sign n w = (λ i. record { sign = p i; row = q i; world = r i }) in
      at ∙ ap Some is

  has_link : (k : ℕ) (j : Link) (sign : Sign) (n w x : ℕ) → slice_get b.links k ≡ Some j → j.sign ≡ sign → j.row ≡ n → j.from ≡ w → j.to ≡ x → HasLink b k sign n w x
  has_link k j sign n w x at p q r s =
      let is : j ≡ link sign n w x = (λ i. record { sign = p i; row = q i; from = r i; to = s i }) in
      at ∙ ap Some is

  unary : (rule : ℕ) → l.code ≡ rule → eqb l.b 0 ≡ true → eqb l.c 0 ≡ true → l ≡ line rule l.a 0 0
  unary rule coded b_idle c_idle = line_is l rule l.a 0 0 coded refl (eqb-true l.b 0 b_idle) (eqb-true l.c 0 c_idle)

  binary : (rule : ℕ) → l.code ≡ rule → eqb l.c 0 ≡ true → l ≡ line rule l.a l.b 0
  binary rule coded c_idle = line_is l rule l.a l.b 0 coded refl refl (eqb-true l.c 0 c_idle)

  does : (x : Move) → Some x ≡ Some m → effect m ≡ effect x
  does x e = ap effect (sym (same_Some x m e))

  pub rule_allows : (r : Code) → l.code ≡ code r → Shaped l (shape_of r) → Operands g b (shape_of r) l m → Allows g b l (effect m)
  rule_allows codes.CiteRule coded s c =
      let n = first_entry _ Rule refl only_rules c in
      let w = cond_some _ (operands.World l.b) c.y c.second in
      let fit = subst (λ y. fits codes.CiteRule (operands.Entry n.0) y c.z v u ≡ Some m) (sym w.1) n.1.1 in
      cite_rule l.a n.0 l.b (binary 1 coded s.c_idle) (ltb-true l.b b.worlds w.0) n.1.0 (does _ fit)
  rule_allows codes.CiteSaying coded s c =
      let n = first_entry _ Saying refl only_sayings c in
      cite_saying l.a n.0 (unary 2 coded s.b_idle s.c_idle) n.1.0 (does _ n.1.1)
  rule_allows codes.Not coded s c =
      let (f, (at, fit)) = first_fact _ refl c in
      let (t, (row, done)) = not_some _ _ m fit in
      by_not l.a f.row t f.world f.sign (unary 3 coded s.b_idle s.c_idle) at row (does _ done)
  rule_allows codes.AndTrue coded s c =
      let (f, (at, fit)) = first_fact _ refl c in
      let (sign, rest) = true_some _ _ m fit in
      let (p, (q, (row, done))) = and_some _ _ m rest in
      and_true l.a f.row p q f.world (unary 4 coded s.b_idle s.c_idle) (has_fact l.a f True _ _ at sign refl refl) row (does _ done)
  rule_allows codes.AndFalse coded s c =
      let (f, (at, fit)) = first_fact _ refl c in
      let (sign, rest) = false_some _ _ m fit in
      let (p, (q, (row, done))) = and_some _ _ m rest in
      and_false l.a f.row p q f.world (unary 5 coded s.b_idle s.c_idle) (has_fact l.a f False _ _ at sign refl refl) row (does _ done)
  rule_allows codes.SaysTrue coded s c =
      let (f, (at, fit)) = first_fact _ refl c in
      let (sign, rest) = true_some _ _ m fit in
      let (p, (t, (row, on))) = says_some _ _ m rest in
      let (k, (r, (is, then))) = link_some c.y _ m on in
      let (also, tested) = true_some _ _ m then in
      let (test, done) = test_some _ _ m tested in
      let (named, there) = same_two k.row p k.from f.world test in
      says_true l.a l.b f.row p t f.world k.to (binary 6 coded s.c_idle) (has_fact l.a f True _ _ at sign refl refl) row
      (has_link l.b k True p f.world k.to (link_at l.b c.y k r c.second is) also named there refl) (ap effect (sym done))
  rule_allows codes.SaysFalse coded s c =
      let (f, (at, fit)) = first_fact _ refl c in
      let (sign, rest) = false_some _ _ m fit in
      let (p, (t, (row, done))) = says_some _ _ m rest in
      says_false l.a f.row p t f.world (unary 7 coded s.b_idle s.c_idle) (has_fact l.a f False _ _ at sign refl refl) row (does _ done)
  rule_allows codes.SpeaksForTrue coded s c =
      let (f, (at, fit)) = first_fact _ refl c in
      let (sign, rest) = true_some _ _ m fit in
      let (p, (q, (row, on))) = speaks_some _ _ m rest in
      let (k, (r, (is, then))) = link_some c.y _ m on in
      let (also, tested) = true_some _ _ m then in
      let (test, done) = test_some _ _ m tested in
      speaks_for_true l.a l.b f.row p q f.world k.from k.to (binary 8 coded s.c_idle) (has_fact l.a f True _ _ at sign refl refl) row
      (has_link l.b k True q k.from k.to (link_at l.b c.y k r c.second is) also (eqb-true k.row q test) refl refl) (ap effect (sym done))
  rule_allows codes.SpeaksForFalse coded s c =
      let (f, (at, fit)) = first_fact _ refl c in
      let (sign, rest) = false_some _ _ m fit in
      let (p, (q, (row, done))) = speaks_some _ _ m rest in
      speaks_for_false l.a f.row p q f.world (unary 9 coded s.b_idle s.c_idle) (has_fact l.a f False _ _ at sign refl refl) row (does _ done)
  rule_allows codes.BothLinked coded s c =
      let (k, (at, fit)) = first_link _ refl c in
      let (sign, rest) = true_some _ _ m fit in
      let (r, (named, then)) = row_some _ _ m rest in
      let (p, (q, (is, done))) = both_some r _ m then in
      both_linked l.a k.row p q k.from k.to (unary 10 coded s.b_idle s.c_idle) (has_link l.a k True _ _ _ at sign refl refl refl) (named ∙ ap Some is) (does _ done)
  rule_allows codes.QuotingLinked coded s c =
      let (k, (at, fit)) = first_link _ refl c in
      let (sign, rest) = true_some _ _ m fit in
      let (r, (named, then)) = row_some _ _ m rest in
      let (p, (q, (is, done))) = quoting_some r _ m then in
      quoting_linked l.a k.row p q k.from k.to (unary 11 coded s.b_idle s.c_idle) (has_link l.a k True _ _ _ at sign refl refl refl) (named ∙ ap Some is) (does _ done)
  rule_allows codes.IntoBoth coded s c =
      let (k, (at, fit)) = first_link _ refl c in
      let (sign, rest) = true_some _ _ m fit in
      let (n, (r, (is, then))) = named_some c.y _ m rest in
      let (p, (q, (parts, tested))) = both_some r _ m then in
      let (test, done) = test_some _ _ m tested in
      let (number, named) = row_at l.b c.y n r c.second is in
      let row = named ∙ ap Some parts in
      let effects = ap effect (sym done) ∙ ap (λ i. adds 0 [] (link True i k.from k.to ∷ [])) number in
      elim (or_cases (eqb k.row p) (eqb k.row q) test) [
        | inl left ↦ into_both_left l.a l.b p q k.from k.to (binary 12 coded s.c_idle) (has_link l.a k True p _ _ at sign (eqb-true k.row p left) refl refl) row effects
        | inr right ↦ into_both_right l.a l.b p q k.from k.to (binary 12 coded s.c_idle) (has_link l.a k True q _ _ at sign (eqb-true k.row q right) refl refl) row effects
      ]
  rule_allows codes.IntoQuoting coded s c =
      let (k, (at, fit)) = first_link _ refl c in
      let (sign, rest) = true_some _ _ m fit in
      let (j, (t, (is, then))) = link_some c.y _ m rest in
      let (also, on) = true_some _ _ m then in
      let (n, (r, (whole, further))) = named_some c.z _ m on in
      let (p, (q, (parts, tested))) = quoting_some r _ m further in
      let (test, done) = test_some _ _ m tested in
      let (left, (right, joined)) = same_three k.row p j.row q k.to j.from test in
      let (number, named) = row_at l.c c.z n r c.third whole in
      into_quoting l.a l.b l.c p q k.from k.to j.to (line_is l 13 l.a l.b l.c coded refl refl refl)
      (has_link l.a k True p _ _ at sign left refl refl)
      (has_link l.b j True q k.to j.to (link_at l.b c.y j t c.second is) also right (sym joined) refl)
      (named ∙ ap Some parts) (ap effect (sym done) ∙ ap (λ i. adds 0 [] (link True i k.from j.to ∷ [])) number)
  rule_allows codes.FactsClash coded s c =
      let (f, (at, fit)) = first_fact _ refl c in
      let (sign, rest) = true_some _ _ m fit in
      let (h, (r, (is, then))) = fact_some c.y _ m rest in
      let (also, tested) = false_some _ _ m then in
      let (test, done) = test_some _ _ m tested in
      let (row, there) = same_two f.row h.row f.world h.world test in
      facts_clash l.a l.b f.row f.world (binary 14 coded s.c_idle) (has_fact l.a f True _ _ at sign refl refl)
      (has_fact l.b h False _ _ (fact_at l.b c.y h r c.second is) also (sym row) (sym there)) (ap effect (sym done))
  rule_allows codes.LinksClash coded s c =
      let (k, (at, fit)) = first_link _ refl c in
      let (sign, rest) = true_some _ _ m fit in
      let (j, (r, (is, then))) = link_some c.y _ m rest in
      let (also, tested) = false_some _ _ m then in
      let (test, done) = test_some _ _ m tested in
      let (row, (start, end)) = same_three k.row j.row k.from j.from k.to j.to test in
      links_clash l.a l.b k.row k.from k.to (binary 15 coded s.c_idle) (has_link l.a k True _ _ _ at sign refl refl refl)
      (has_link l.b j False _ _ _ (link_at l.b c.y j r c.second is) also (sym row) (sym start) (sym end)) (ap effect (sym done))

pub walked_allows : (g : Given) (b : Branch) (l : Line) (s : Shape) (m : Move) (n : ℕ) → shaped l ≡ Some s → line_move g b s l n ≡ Ok m → Allows g b l (effect m)
walked_allows g b l s m n shapes moves =
    let so = shaped_so l s shapes in
    rule_allows g b l m s.rule so.coded (subst (Shaped l) so.is so) (subst (λ t. Operands g b t l m) so.is (move_cited g b s l n m moves))
