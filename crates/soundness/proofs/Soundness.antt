-- What keeps the rules follows, in every settled structure and so in every finite one.
--
-- Fits b f                 the fork f goes back to facts and links that the branch b has
-- Waiting b ks             each of the forks ks fits, and what it goes back to is numbered
-- Stacked g M b ks         no assignment models any of the branches that the forks ks go back to
use Rattle.std.proofs.Common.{◌≡◌, ℕ, ◌<◌, ◌≤◌, List, [], ◌∷◌, length, Some, sym, refl, ◌∙◌, subst, ap₂, append-nil, add-zero, arith, length-append}
use Rattle.std.proofs.Math.Seq.{take-length}
use Rattle.std.proofs.lemmas.List.{take-append-le}
use Rattle.std.proofs.lemmas.List.Elements.{All-from_recursion}
use Rattle.terms.specs.Laws.{SoundRows}
use Rattle.terms.specs.Truth.{Structure, Holds, Settled, structure}
use Rattle.terms.specs.Written.{Statement, statement_written}
use Rattle.terms.proofs.Settling.{finite_structures_are_settled}
use Rattle.rules.specs.declared.branch.Fact.{Fact}
use Rattle.rules.specs.declared.branch.Fork.{Fork}
use Rattle.rules.specs.declared.branch.Link.{Link}
use Rattle.rules.specs.declared.branch.Side.{Side}
use Rattle.rules.specs.declared.branch.Side.TheVariants as sides
use Rattle.rules.specs.declared.branch.Sign.TheVariants.{False}
use Rattle.rules.specs.declared.line.Line.{Line}
use Rattle.rules.specs.Branches.{fact, Branch, branch, start, Effect, adds, forks, closes, Progress, going, with_side, fork, back, moved}
use Rattle.soundness.specs.Given.{Given}
use Rattle.soundness.specs.Follows.{RulesHold, SayingsHold}
use Rattle.soundness.specs.Laws.{Sound}
use Rattle.soundness.specs.ProofFiles.{Keeps}
use Rattle.soundness.specs.Rules.{Completes}
use Rattle.soundness.proofs.Truths.{FactTrue, LinkTrue, sentence, stable, named_sentence}
use Rattle.soundness.proofs.Assignments.{added, FactBelow, LinkBelow, Numbered, Unsatisfied}
use Rattle.soundness.proofs.Steps.{side_facts, side_links, beside, Step, allowed}

abbrev Fits : Branch → Fork → Type 0
Fits b f = (f.facts ≤ length b.facts) × (f.links ≤ length b.links)

abbrev Waiting : Branch → List Fork → Type 0
Waiting b [] = Unit {0}
Waiting b (f ∷ ks) = Fits b f × (Numbered (back b f) × Waiting (back b f) ks)

abbrev Stacked : {W : Type 0} → Given → Structure W → Branch → List Fork → Type 0
Stacked g M b [] = Unit {0}
Stacked g M b (f ∷ ks) = Unsatisfied g M (back b f) × Stacked g M (back b f) ks

with_side_adds : (b : Branch) (s : Side) → with_side b s ≡ beside b s
with_side_adds b (sides.Fact f) = rw (append-nil, add-zero)
with_side_adds b (sides.Link l) = rw (append-nil, add-zero)

fork_goes_back : (b : Branch) (s : Side) → back b (fork b s) ≡ beside b s
fork_goes_back b s =
    ap₂ (λ xs ys. with_side (branch xs ys b.worlds) s) (take-length b.facts) (take-length b.links) ∙ with_side_adds b s

-- a fork goes back to the same branch from one with more
module _ (b : Branch) (n : ℕ) (fs : List Fact) (ls : List Link) where
  back_added : (f : Fork) → Fits b f → back (added b n fs ls) f ≡ back b f
  back_added f h =
      ap₂ (λ xs ys. with_side (branch xs ys f.worlds) f.kept) (take-append-le f.facts b.facts fs h.0) (take-append-le f.links b.links ls h.1)

  fits_added : (f : Fork) → Fits b f → Fits (added b n fs ls) f
  fits_added f h = omega (arith, length-append b.facts fs, length-append b.links ls)

  waiting_added : (ks : List Fork) → Waiting b ks → Waiting (added b n fs ls) ks
  waiting_added [] h = tt
  waiting_added (f ∷ ks) h =
      (fits_added f h.0, subst (λ c. Numbered c × Waiting c ks) (sym (back_added f h.0)) h.1)

  stacked_before : (g : Given) {W : Type 0} (M : Structure W) (ks : List Fork) → Waiting b ks → Stacked g M (added b n fs ls) ks → Stacked g M b ks
  stacked_before g M [] h none = tt
  stacked_before g M (f ∷ ks) h none = subst (λ c. Unsatisfied g M c × Stacked g M c ks) (back_added f h.0) none

module _ {W : Type 0} (M : Structure W) (settled : Settled M) (g : Given) (rows : SoundRows g.rows) (rules : RulesHold M g) (sayings : SayingsHold M g) (ok : Progress → Type 0) where
  -- lines that complete a proof refute its branch and those that its forks go back to
  abbrev Refuted : List Line → Type 0
  Refuted ls =
      (b : Branch) (ks : List Fork) → Numbered b → Waiting b ks → Completes g ok (going b ks) ls → Unsatisfied g M b × Stacked g M b ks

  after : (b : Branch) (ks : List Fork) (e : Effect) (ls : List Line) → Step g M b e → Waiting b ks → Refuted ls → Completes g ok (moved b ks e) ls → Unsatisfied g M b × Stacked g M b ks
  after b ks (adds n fs xs) ls step waiting refuted c =
      let none = refuted (added b n fs xs) ks step.0 (waiting_added b n fs xs ks waiting) c in
      (step.1 none.0, stacked_before b n fs xs g M ks waiting none.1)
  after b ks (forks x y) ls step waiting refuted c =
      let fits : Fits b (fork b y) = omega arith in
      let goes_back : back (beside b x) (fork b y) ≡ beside b y = back_added b 0 (side_facts x) (side_links x) (fork b y) fits ∙ fork_goes_back b y in
      let on : Completes g ok (going (beside b x) (fork b y ∷ ks)) ls = subst (λ d. Completes g ok (going d (fork b y ∷ ks)) ls) (with_side_adds b x) c in
      let kept = subst (λ d. Numbered d × Waiting d ks) (sym goes_back) (step.1, waiting_added b 0 (side_facts y) (side_links y) ks waiting) in
      let none = refuted (beside b x) (fork b y ∷ ks) step.0 (fits_added b 0 (side_facts x) (side_links x) (fork b y) fits, kept) on in
      let others = subst (λ d. Unsatisfied g M d × Stacked g M d ks) goes_back none.1 in
      (step.2 none.0 others.0, stacked_before b 0 (side_facts y) (side_links y) g M ks waiting others.1)
  after b [] closes ls step waiting refuted c = (step, tt)
  after b (f ∷ ks) closes ls step waiting refuted c = (step, refuted (back b f) ks waiting.1.0 waiting.1.1 c)

  refuted : (ls : List Line) → Refuted ls
  refuted [] b ks numbered waiting c = absurd c
  refuted (l ∷ ls) b ks numbered waiting (e, (allows, (fine, c))) =
      after b ks e ls (allowed g rows M settled rules sayings b numbered l e allows) waiting (refuted ls) c

  -- if s failed at the start, the first branch, "r false at 0", would have a model
  pub completes_follows : (r : ℕ) (ls : List Line) → r < length g.rows.statements → Completes g ok (going (start r) []) ls → (s : Statement) → statement_written g.rows r ≡ Some s → Holds M s M.start
  completes_follows r ls named c s written =
      let first = fact False r 0 ∷ [] in
      let ρ : ℕ → W = (λ _. M.start) in
      let numbered : Numbered (start r) = record { some = omega arith; below = (All-from_recursion (FactBelow 1) first (omega arith), All-from_recursion (LinkBelow 1) [] tt) } in
      let none = refuted ls (start r) [] numbered tt c in
      let found = named_sentence g r named in
      let same : sentence g r ≡ s = cc in
      stable (settled.statements s M.start) (λ fails. none.0 ρ (record { root = refl; true = (All-from_recursion (FactTrue g M ρ) first ((λ t. fails (subst (λ x. Holds M x M.start) same t)), tt), All-from_recursion (LinkTrue g M ρ) [] tt) }))

  pub keeps_follows_in : (most : ℕ) (bytes : List ℕ) (r : ℕ) → Keeps g ok most bytes r → (s : Statement) → statement_written g.rows r ≡ Some s → Holds M s M.start
  keeps_follows_in most bytes r keeps s written = completes_follows r keeps.lines keeps.named keeps.completes s written

pub sound : Sound
sound ok g most bytes r rows keeps =
    let written = named_sentence g r keeps.named in
    (sentence g r, (written, λ f rules sayings. keeps_follows_in (structure f) (finite_structures_are_settled f) g rows rules sayings ok most bytes r keeps (sentence g r) written))
