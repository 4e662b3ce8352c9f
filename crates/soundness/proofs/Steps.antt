-- Every line that the rules allow is a step: if no assignment models what it makes of a branch, none models the branch.
--
-- side_facts s, side_links s    the fact or the link of the alternative s
-- beside b s                    the branch b with the alternative s
-- SideBelow n s                 the alternative s is of worlds below the number n
-- SideTrue g M ρ s              the alternative s is right in M under the assignment ρ
-- Explained g M b fs ls         whatever models the branch b, it cannot be that no assignment agreeing with it on the worlds of b makes the facts fs and the links ls right
-- Step g M b e                  what the effect e makes of the branch b is numbered, and if no assignment models that, none models b
use Rattle.std.proofs.Common.{◌≡◌, ℕ, ◌+◌, ◌<◌, List, [], ◌∷◌, Some, sym, refl, ◌∙◌, subst, subst₂, inl, inr, arith}
use Rattle.std.specs.List.{slice_get, All}
use Rattle.std.proofs.lemmas.Option.{slice_get_within, get_or_from_slice_get}
use Rattle.terms.specs.declared.row.PrincipalRow.{PrincipalRow}
use Rattle.terms.specs.declared.row.StatementRow.{StatementRow}
use Rattle.terms.specs.Laws.{SoundRows}
use Rattle.terms.specs.Truth.{Structure, Pair, Holds, Settled}
use Rattle.terms.specs.Written.{statement_written}
use Rattle.book.specs.declared.entry.Standing.{Standing}
use Rattle.rules.specs.declared.branch.Fact.{Fact}
use Rattle.rules.specs.declared.branch.Link.{Link}
use Rattle.rules.specs.declared.branch.Side.{Side}
use Rattle.rules.specs.declared.branch.Side.TheVariants as sides
use Rattle.rules.specs.declared.branch.Sign.{Sign}
use Rattle.rules.specs.declared.branch.Sign.TheVariants.{True, False}
use Rattle.rules.specs.declared.line.Line.{Line}
use Rattle.rules.specs.Branches.{Branch, Effect, adds, forks, closes}
use Rattle.soundness.specs.Given.{Given, StatementIs, PrincipalIs, Live}
use Rattle.soundness.specs.Follows.{RulesHold, SayingsHold}
use Rattle.soundness.specs.Rules.{HasFact, HasLink, Allows, cite_rule, cite_saying, by_not, and_true, and_false, says_true, says_false, speaks_for_true, speaks_for_false, both_linked, quoting_linked, into_both_left, into_both_right, into_quoting, facts_clash, links_clash}
use Rattle.soundness.proofs.Truths.{sentence, principal, sentence_by, principal_by, TrueAt, Linked, Signed, FactTrue, LinkTrue, stable, named_sentence, sentence_is, principal_is}
use Rattle.soundness.proofs.Assignments.{added, FactBelow, LinkBelow, NewBelow, NewTrue, Numbered, Models, Unsatisfied, Agree, extend, extend_here, extend_below, numbered_added, models_added}

abbrev pub side_facts : Side → List Fact
side_facts (sides.Fact f) = f ∷ []
side_facts (sides.Link l) = []

abbrev pub side_links : Side → List Link
side_links (sides.Fact f) = []
side_links (sides.Link l) = l ∷ []

abbrev pub beside : Branch → Side → Branch
beside b s = added b 0 (side_facts s) (side_links s)

abbrev SideBelow : ℕ → Side → Type 0
SideBelow n s = NewBelow n (side_facts s) (side_links s)

abbrev SideTrue : {W : Type 0} → Given → Structure W → (ℕ → W) → Side → Type 0
SideTrue g M ρ s = NewTrue g M ρ (side_facts s) (side_links s)

abbrev Explained : {W : Type 0} → Given → Structure W → Branch → List Fact → List Link → Type 0
Explained {W} g M b fs ls =
    (ρ : ℕ → W) → Models g M ρ b → ((σ : ℕ → W) → Agree b.worlds ρ σ → NewTrue g M σ fs ls → ⊥) → ⊥

abbrev pub Step : {W : Type 0} → Given → Structure W → Branch → Effect → Type 0
Step g M b (adds n fs ls) = Numbered (added b n fs ls) × (Unsatisfied g M (added b n fs ls) → Unsatisfied g M b)
Step g M b (forks x y) =
    Numbered (beside b x) × Numbered (beside b y) × (Unsatisfied g M (beside b x) → Unsatisfied g M (beside b y) → Unsatisfied g M b)
Step g M b closes = Unsatisfied g M b

all_nth : {X : Type 0} (P : X → Type 0) (xs : List X) (k : ℕ) (x : X) → All P xs → slice_get xs k ≡ Some x → P x
all_nth P xs k x h e = subst P (get_or_from_slice_get xs k x x e) (h k x (slice_get_within xs k x e))

module _ (g : Given) (sound : SoundRows g.rows) {W : Type 0} (M : Structure W) (settled : Settled M) (rules : RulesHold M g) (sayings : SayingsHold M g) (b : Branch) (numbered : Numbered b) where
  adding : {e : Effect} {n : ℕ} {fs : List Fact} {ls : List Link} → e ≡ adds n fs ls → NewBelow (b.worlds + n) fs ls → Explained g M b fs ls → Step g M b e
  adding {e} {n} {fs} {ls} eq new explained =
      subst (Step g M b) (sym eq) (numbered_added b n fs ls numbered new, λ none ρ m. explained ρ m (λ σ agree true. none σ (models_added g M b n fs ls ρ σ numbered m agree true)))

  -- with no new world the assignment stays
  staying : {e : Effect} {fs : List Fact} {ls : List Link} → e ≡ adds 0 fs ls → NewBelow (b.worlds + 0) fs ls → ((ρ : ℕ → W) → Models g M ρ b → NewTrue g M ρ fs ls) → Step g M b e
  staying eq new right = adding eq new (λ ρ m go. go ρ (λ k h. refl) (right ρ m))

  forking : {e : Effect} {x y : Side} → e ≡ forks x y → SideBelow (b.worlds + 0) x → SideBelow (b.worlds + 0) y → ((ρ : ℕ → W) → Models g M ρ b → (SideTrue g M ρ x → ⊥) → (SideTrue g M ρ y → ⊥) → ⊥) → Step g M b e
  forking {e} {x} {y} eq first second either =
      subst (Step g M b) (sym eq) (side-numbered x first, side-numbered y second, λ none others ρ m. either ρ m (λ t. none ρ (side-models ρ m x t)) (λ t. others ρ (side-models ρ m y t)))
    where
      side-numbered : (s : Side) → SideBelow (b.worlds + 0) s → Numbered (beside b s)
      side-numbered s new = numbered_added b 0 (side_facts s) (side_links s) numbered new

      side-models : (ρ : ℕ → W) → Models g M ρ b → (s : Side) → SideTrue g M ρ s → Models g M ρ (beside b s)
      side-models ρ m s true = models_added g M b 0 (side_facts s) (side_links s) ρ ρ numbered m (λ k h. refl) true

  closing : {e : Effect} → e ≡ closes → Unsatisfied g M b → Step g M b e
  closing eq none = subst (Step g M b) (sym eq) none

  fact_within : (k : ℕ) {n w : ℕ} {sign : Sign} → HasFact b k sign n w → w < b.worlds
  fact_within k has = all_nth (FactBelow b.worlds) b.facts k _ numbered.below.0 has

  link_within : (k : ℕ) {n w v : ℕ} {sign : Sign} → HasLink b k sign n w v → (w < b.worlds) × (v < b.worlds)
  link_within k has = all_nth (LinkBelow b.worlds) b.links k _ numbered.below.1 has

  fact_true : (ρ : ℕ → W) → Models g M ρ b → (k : ℕ) {n w : ℕ} {sign : Sign} → HasFact b k sign n w → Signed sign (TrueAt g M n (ρ w))
  fact_true ρ m k has = all_nth (FactTrue g M ρ) b.facts k _ m.true.0 has

  link_true : (ρ : ℕ → W) → Models g M ρ b → (k : ℕ) {n w v : ℕ} {sign : Sign} → HasLink b k sign n w v → Signed sign (Linked g M n (ρ w) (ρ v))
  link_true ρ m k has = all_nth (LinkTrue g M ρ) b.links k _ m.true.1 has

  -- the same by the parts of the row
  fact_parts : (ρ : ℕ → W) → Models g M ρ b → (k : ℕ) {n w : ℕ} {sign : Sign} {r : StatementRow} → HasFact b k sign n w → StatementIs g n r → Signed sign (Holds M (sentence_by g r) (ρ w))
  fact_parts ρ m k {n} {w} {sign} {r} has is =
      subst (λ s. Signed sign (Holds M s (ρ w))) (sentence_is g sound n r is) (fact_true ρ m k has)

  link_parts : (ρ : ℕ → W) → Models g M ρ b → (k : ℕ) {n w v : ℕ} {sign : Sign} {r : PrincipalRow} → HasLink b k sign n w v → PrincipalIs g n r → Signed sign (Pair M (principal_by g r) (ρ w) (ρ v))
  link_parts ρ m k {n} {w} {v} {sign} {r} has is =
      subst (λ p. Signed sign (Pair M p (ρ w) (ρ v))) (principal_is g sound n r is) (link_true ρ m k has)

  link_whole : (n : ℕ) {r : PrincipalRow} → PrincipalIs g n r → (x y : W) → Pair M (principal_by g r) x y → Linked g M n x y
  link_whole n {r} is x y h = subst (λ p. Pair M p x y) (sym (principal_is g sound n r is)) h

  live_written : {standing : Standing} {serial n : ℕ} → Live g standing serial n → statement_written g.rows n ≡ Some (sentence g n)
  live_written {n} live = named_sentence g n (slice_get_within g.rows.statements n live.named.0 live.named.1)

  pub allowed : (l : Line) (e : Effect) → Allows g b l e → Step g M b e
  allowed l e (cite_rule serial n w _ within live eq) =
      staying eq (omega arith)
      (λ ρ m. ((rules serial n (sentence g n) live (live_written live) (ρ w), tt), tt))
  allowed l e (cite_saying serial n _ live eq) =
      staying eq (omega (arith, numbered.some))
      (λ ρ m. ((subst (TrueAt g M n) (sym m.root) (sayings serial n (sentence g n) live (live_written live)), tt), tt))
  allowed l e (by_not k n s w True _ has is eq) =
      staying eq (omega (arith, fact_within k has))
      (λ ρ m. ((fact_parts ρ m k has is, tt), tt))
  allowed l e (by_not k n s w False _ has is eq) =
      staying eq (omega (arith, fact_within k has))
      (λ ρ m. ((stable (settled.statements (sentence g s) (ρ w)) (fact_parts ρ m k has is), tt), tt))
  allowed l e (and_true k n s t w _ has is eq) =
      staying eq (omega (arith, fact_within k has))
      (λ ρ m. let h = fact_parts ρ m k has is in ((h.0, (h.1, tt)), tt))
  allowed l e (and_false k n s t w _ has is eq) =
      let within = fact_within k has in
      forking eq (omega arith) (omega arith)
      (λ ρ m first second. first ((λ p. second ((λ q. fact_parts ρ m k has is (p, q), tt), tt), tt), tt))
  allowed l e (says_true k j n p s w v _ has is linked eq) =
      staying eq (omega (arith, link_within j linked))
      (λ ρ m. ((fact_parts ρ m k has is (ρ v) (link_true ρ m j linked), tt), tt))
  -- if s held at every world that p links, n would be true: so it fails at one, and that is the new world
  allowed l e (says_false k n p s w _ has is eq) =
      let within = fact_within k has in
      adding eq (omega arith)
      (λ ρ m go. fact_parts ρ m k has is (λ v linked. stable (settled.statements (sentence g s) v) (λ fails.
      let here = extend_here ρ b.worlds v in
      let below = extend_below ρ b.worlds v in
      go (extend ρ b.worlds v) below
      ((λ t. fails (subst (TrueAt g M s) (sym here) t), tt), (subst₂ (Linked g M p) (below w within) here linked, tt)))))
  allowed l e (speaks_for_true k j n p q w v u _ has is linked eq) =
      staying eq (omega (arith, link_within j linked))
      (λ ρ m. (tt, (fact_parts ρ m k has is (ρ v) (ρ u) (link_true ρ m j linked), tt)))
  -- if every pair of q were one of p, n would be true: so some pair is not, and its worlds are the two new ones
  allowed l e (speaks_for_false k n p q w _ has is eq) =
      adding eq (omega arith)
      (λ ρ m go. fact_parts ρ m k has is (λ v u linked. stable (settled.principals (principal g p) v u) (λ fails.
      let τ = extend ρ b.worlds v in
      let below = extend_below τ (b.worlds + 1) u in
      let at-v = extend_here ρ b.worlds v ∙ below b.worlds (omega arith) in
      let at-u = extend_here τ (b.worlds + 1) u in
      go (extend τ (b.worlds + 1) u) (λ i h. extend_below ρ b.worlds v i h ∙ below i (omega arith))
      (tt, (subst₂ (Linked g M q) at-v at-u linked, (λ t. fails (subst₂ (Linked g M p) (sym at-v) (sym at-u) t), tt))))))
  allowed l e (both_linked k n p q w v _ has is eq) =
      let within = link_within k has in
      forking eq (omega arith) (omega arith)
      (λ ρ m first second. elim (link_parts ρ m k has is) [ inl h ↦ first (tt, (h, tt)) | inr h ↦ second (tt, (h, tt)) ])
  -- the world between is the new one
  allowed l e (quoting_linked k n p q w v _ has is eq) =
      let within = link_within k has in
      adding eq (omega arith)
      (λ ρ m go.
      let (u, linked) = link_parts ρ m k has is in
      let here = extend_here ρ b.worlds u in
      let below = extend_below ρ b.worlds u in
      go (extend ρ b.worlds u) below
      (tt, (subst₂ (Linked g M p) (below w within.0) here linked.0, (subst₂ (Linked g M q) here (below v within.1) linked.1, tt))))
  allowed l e (into_both_left k n p q w v _ has is eq) =
      staying eq (omega (arith, link_within k has))
      (λ ρ m. (tt, (link_whole n is (ρ w) (ρ v) (inl (link_true ρ m k has)), tt)))
  allowed l e (into_both_right k n p q w v _ has is eq) =
      staying eq (omega (arith, link_within k has))
      (λ ρ m. (tt, (link_whole n is (ρ w) (ρ v) (inr (link_true ρ m k has)), tt)))
  allowed l e (into_quoting k j n p q w u v _ has next is eq) =
      staying eq (omega (arith, link_within k has, link_within j next))
      (λ ρ m. (tt, (link_whole n is (ρ w) (ρ v) (ρ u, (link_true ρ m k has, link_true ρ m j next)), tt)))
  allowed l e (facts_clash k j n w _ has fails eq) = closing eq (λ ρ m. fact_true ρ m j fails (fact_true ρ m k has))
  allowed l e (links_clash k j n w v _ has fails eq) = closing eq (λ ρ m. link_true ρ m j fails (link_true ρ m k has))
