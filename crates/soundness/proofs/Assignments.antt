-- Assignments of worlds to the numbers of a branch, and how one goes on to a branch with more facts, links and worlds.
--
-- added b n fs ls           the branch b with n new worlds, the facts fs and the links ls
-- Below n fs ls             the facts fs and the links ls are of worlds below the number n
-- AllTrue g M ρ fs ls       the facts fs and the links ls are right in M under the assignment ρ
-- NewBelow, NewTrue         the same of the few that are new, one after another
-- Numbered b                the branch b has a world, and its facts and links are of its worlds
-- Models g M ρ b            under the assignment ρ the number 0 is the start, and the facts and links of the branch b are right
-- Unsatisfied g M b         no assignment models the branch b
-- Agree n ρ σ               two assignments agree below the number n
-- extend ρ n x              the assignment ρ, but with the world x at the number n
use Rattle.std.proofs.Common.{◌≡◌, ℕ, ◌+◌, ◌<◌, ◌≤◌, cond, eqb, List, ◌++◌, get_or, sym, refl, ◌∙◌, subst, subst₂, arith}
use Rattle.std.specs.List.{All, AllByRecursion}
use Rattle.std.proofs.lemmas.Bool.{cond-true, cond-false, eq-eqb, ne_eqb}
use Rattle.std.proofs.lemmas.List.Elements.{All-append, All-weaker, All-from_recursion}
use Rattle.terms.specs.Truth.{Structure}
use Rattle.rules.specs.declared.branch.Fact.{Fact}
use Rattle.rules.specs.declared.branch.Link.{Link}
use Rattle.rules.specs.Branches.{Branch, branch}
use Rattle.soundness.specs.Given.{Given}
use Rattle.soundness.proofs.Truths.{TrueAt, Linked, Signed, FactTrue, LinkTrue}

abbrev pub added : Branch → ℕ → List Fact → List Link → Branch
added b n fs ls = branch (b.facts ++ fs) (b.links ++ ls) (b.worlds + n)

abbrev pub FactBelow : ℕ → Fact → Type 0
FactBelow n f = f.world < n

abbrev pub LinkBelow : ℕ → Link → Type 0
LinkBelow n l = (l.from < n) × (l.to < n)

abbrev pub Below : ℕ → List Fact → List Link → Type 0
Below n fs ls = All (FactBelow n) fs × All (LinkBelow n) ls

abbrev pub AllTrue : {W : Type 0} → Given → Structure W → (ℕ → W) → List Fact → List Link → Type 0
AllTrue g M ρ fs ls = All (FactTrue g M ρ) fs × All (LinkTrue g M ρ) ls

abbrev pub NewBelow : ℕ → List Fact → List Link → Type 0
NewBelow n fs ls = AllByRecursion (FactBelow n) fs × AllByRecursion (LinkBelow n) ls

abbrev pub NewTrue : {W : Type 0} → Given → Structure W → (ℕ → W) → List Fact → List Link → Type 0
NewTrue g M ρ fs ls = AllByRecursion (FactTrue g M ρ) fs × AllByRecursion (LinkTrue g M ρ) ls

pub record Numbered (b : Branch) : Type 0 where
  pub some : 0 < b.worlds
  pub below : Below b.worlds b.facts b.links

pub record Models {W : Type 0} (g : Given) (M : Structure W) (ρ : ℕ → W) (b : Branch) : Type 0 where
  pub root : ρ 0 ≡ M.start
  pub true : AllTrue g M ρ b.facts b.links

abbrev pub Unsatisfied : {W : Type 0} → Given → Structure W → Branch → Type 0
Unsatisfied {W} g M b = (ρ : ℕ → W) → Models g M ρ b → ⊥

abbrev pub Agree : {W : Type 0} → ℕ → (ℕ → W) → (ℕ → W) → Type 0
Agree n ρ σ = (k : ℕ) → k < n → ρ k ≡ σ k

abbrev pub extend : {W : Type 0} → (ℕ → W) → ℕ → W → ℕ → W
extend ρ n x k = cond (eqb k n) x (ρ k)

pub extend_here : {W : Type 0} (ρ : ℕ → W) (n : ℕ) (x : W) → x ≡ extend ρ n x n
extend_here ρ n x = sym (cond-true (eqb n n) x (ρ n) (eq-eqb n n refl))

pub extend_below : {W : Type 0} (ρ : ℕ → W) (n : ℕ) (x : W) → Agree n ρ (extend ρ n x)
extend_below ρ n x k h = sym (cond-false (eqb k n) x (ρ k) (ne_eqb k n (λ e. omega arith)))

pub both_append : (P : Fact → Type 0) (Q : Link → Type 0) (fs new-facts : List Fact) (ls new-links : List Link) → All P fs × All Q ls → AllByRecursion P new-facts × AllByRecursion Q new-links → All P (fs ++ new-facts) × All Q (ls ++ new-links)
both_append P Q fs new-facts ls new-links old new =
    (All-append P fs new-facts old.0 (All-from_recursion P new-facts new.0), All-append Q ls new-links old.1 (All-from_recursion Q new-links new.1))

below_more : (n m : ℕ) (fs : List Fact) (ls : List Link) → n ≤ m → Below n fs ls → Below m fs ls
below_more n m fs ls h below =
    (All-weaker (FactBelow n) (FactBelow m) (λ f k. omega arith) fs below.0, All-weaker (LinkBelow n) (LinkBelow m) (λ l k. omega arith) ls below.1)

pub numbered_added : (b : Branch) (n : ℕ) (fs : List Fact) (ls : List Link) → Numbered b → NewBelow (b.worlds + n) fs ls → Numbered (added b n fs ls)
numbered_added b n fs ls h new =
    let m = b.worlds + n in
    record {
      some = omega (arith, h.some);
      below = both_append (FactBelow m) (LinkBelow m) b.facts fs b.links ls (below_more b.worlds m b.facts b.links (omega arith) h.below) new;
    }

module _ (g : Given) {W : Type 0} (M : Structure W) where
  -- what is right of worlds below n is right under an assignment that agrees below n
  true_agreed : (n : ℕ) (ρ σ : ℕ → W) (fs : List Fact) (ls : List Link) → Agree n ρ σ → Below n fs ls → AllTrue g M ρ fs ls → AllTrue g M σ fs ls
  true_agreed n ρ σ fs ls agree below true =
      (λ k d h. fact-agreed (get_or fs k d) (below.0 k d h) (true.0 k d h), λ k d h. link-agreed (get_or ls k d) (below.1 k d h) (true.1 k d h))
    where
      fact-agreed : (f : Fact) → FactBelow n f → FactTrue g M ρ f → FactTrue g M σ f
      fact-agreed f h t = subst (λ x. Signed f.sign (TrueAt g M f.row x)) (agree f.world h) t

      link-agreed : (l : Link) → LinkBelow n l → LinkTrue g M ρ l → LinkTrue g M σ l
      link-agreed l h t =
          subst₂ (λ x y. Signed l.sign (Linked g M l.row x y)) (agree l.from h.0) (agree l.to h.1) t

  pub models_added : (b : Branch) (n : ℕ) (fs : List Fact) (ls : List Link) (ρ σ : ℕ → W) → Numbered b → Models g M ρ b → Agree b.worlds ρ σ → NewTrue g M σ fs ls → Models g M σ (added b n fs ls)
  models_added b n fs ls ρ σ h m agree new =
      record {
        root = sym (agree 0 h.some) ∙ m.root;
        true = both_append (FactTrue g M σ) (LinkTrue g M σ) b.facts fs b.links ls (true_agreed b.worlds ρ σ b.facts b.links agree h.below m.true) new;
      }
