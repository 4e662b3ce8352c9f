-- The misreadings stay out: three by a finite structure against them, the fourth by walking.
--
-- HeldSo M standing s     s holds in M as what has this standing must: a rule at all worlds, a saying at the start
-- EntryHolds M g e        the statement of the entry e holds so
use Rattle.std.proofs.Common.{◌≡◌, ℕ, true, false, eqb, List, [], ◌∷◌, Some, refl, subst, subst₂, inr, zero-le, arith}
use Rattle.std.specs.List.{AllByRecursion}
use Rattle.std.proofs.lemmas.Bool.{cond_both, false≢true}
use Rattle.std.proofs.lemmas.Option.{same_Some, slice_get_within}
use Rattle.terms.specs.Laws.{SoundRows}
use Rattle.terms.specs.Truth.{Structure, Holds, Finite, structure}
use Rattle.terms.specs.Written.{Statement, statement_written}
use Rattle.terms.proofs.Settling.{finite_structures_are_settled}
use Rattle.terms.proofs.Sound.{principal_named_sound, statement_named_sound}
use Rattle.book.specs.declared.entry.Entry.{Entry}
use Rattle.book.specs.declared.entry.Standing.{Standing}
use Rattle.book.specs.declared.entry.Standing.TheVariants.{Rule, Saying}
use Rattle.soundness.specs.Follows.{RulesHold, SayingsHold}
use Rattle.soundness.specs.Given.{Given, Live}
use Rattle.soundness.specs.Misreadings.{tin, entry, filed, tin_with, NeverProved, OneIsNotBoth, NotTurnedRound, AtTheStartOnly, ClosedIsGone}
use Rattle.soundness.specs.Walking.{Within}
use Rattle.soundness.proofs.Soundness.{keeps_follows_in}
use Rattle.soundness.proofs.Truths.{sentence, named_sentence}

-- no proof of a statement that fails in a structure in which the live rules and sayings hold
pub refuted_by : (g : Given) → SoundRows g.rows → (f : Finite) → RulesHold (structure f) g → SayingsHold (structure f) g → (r : ℕ) (s : Statement) → statement_written g.rows r ≡ Some s → (Holds (structure f) s (structure f).start → ⊥) → NeverProved g r
refuted_by g rows f rules sayings r s written fails lim bytes keeps =
    fails (keeps_follows_in (structure f) (finite_structures_are_settled f) g rows rules sayings (Within lim) lim.lines bytes r keeps s written)

none_sound : SoundRows (record { principals = []; statements = [] })
none_sound =
    record {
      principals_within = omega arith;
      statements_within = omega arith;
      principals_distinct = λ i j h. omega arith;
      statements_distinct = λ i j h. omega arith;
      principals_earlier = λ n r e. cc;
      statements_earlier = λ n r e. cc;
      named = λ n r e. cc;
    }

-- naming the rows one after another
tin_sound : SoundRows tin
tin_sound =
    let shop = principal_named_sound _ none_sound 1 0 0 in
    let lab = principal_named_sound _ shop 1 1 0 in
    let both = principal_named_sound _ lab 2 0 1 in
    let pour = statement_named_sound _ both 1 0 0 in
    let shop-says = statement_named_sound _ pour 4 0 0 in
    let both_say = statement_named_sound _ shop-says 4 2 0 in
    let lab-says = statement_named_sound _ both_say 4 1 0 in
    let speaks_for = statement_named_sound _ lab-says 5 0 1 in
    statement_named_sound _ speaks_for 3 0 0

-- what is said of each entry is said of what is found under a serial
filed_all : (P : Entry → Type 0) (es : List Entry) → AllByRecursion P es → (serial : ℕ) (e : Entry) → filed es serial ≡ Some e → P e
filed_all P [] all serial e found = cc
filed_all P (x ∷ xs) all serial e found =
    cond_both (eqb serial x.serial) (Some x) (filed xs serial) (λ o. o ≡ Some e → P e)
    (λ _ is. subst P (same_Some x e is) all.0)
    (λ _. filed_all P xs all.1 serial e)
    found

module _ {W : Type 0} (M : Structure W) where
  abbrev HeldSo : Standing → Statement → Type 0
  HeldSo Rule s = (w : W) → Holds M s w
  HeldSo Saying s = Holds M s M.start

  abbrev EntryHolds : Given → Entry → Type 0
  EntryHolds g e = HeldSo e.standing (sentence g e.row)

  live_holds : (es : List Entry) → AllByRecursion (EntryHolds (tin_with es)) es → (standing : Standing) (serial n : ℕ) (s : Statement) → Live (tin_with es) standing serial n → statement_written tin n ≡ Some s → HeldSo standing s
  live_holds es all standing serial n s live written =
      let g = tin_with es in
      let at = live.row in
      let found = named_sentence g n (slice_get_within tin.statements n live.named.0 live.named.1) in
      let same : sentence g live.entry.row ≡ s = cc in
      subst₂ HeldSo live.stands same (filed_all (EntryHolds g) es all serial live.entry live.found)

tin_refuted : (es : List Entry) (f : Finite) → AllByRecursion (EntryHolds (structure f) (tin_with es)) es → (r : ℕ) (s : Statement) → statement_written tin r ≡ Some s → (Holds (structure f) s (structure f).start → ⊥) → NeverProved (tin_with es) r
tin_refuted es f hold =
    refuted_by (tin_with es) tin_sound f (live_holds (structure f) es hold Rule) (live_holds (structure f) es hold Saying)

-- one world, where pour fails: Lab holds it possible, and Shop holds no world possible
pub one_is_not_both : OneIsNotBoth
one_is_not_both =
    tin_refuted (entry 1 Saying 1 ∷ []) (record { last = 0; pairs = λ a w v. eqb a 1; marks = λ r w. false }) ((λ v linked. linked), tt) 2 _ refl
    (λ holds. false≢true (holds (0, zero-le) (inr refl)))

-- the same world, but Shop holds it possible, and Lab holds no world possible
pub not_turned_round : NotTurnedRound
not_turned_round =
    tin_refuted (entry 1 Rule 4 ∷ entry 2 Saying 3 ∷ []) (record { last = 0; pairs = λ a w v. eqb a 0; marks = λ r w. false }) ((λ w v u linked. refl), ((λ v linked. linked), tt)) 1 _ refl
    (λ holds. false≢true (holds (0, zero-le) refl))

-- pour holds at the start, and fails at another world that Shop holds possible
pub at_the_start_only : AtTheStartOnly
at_the_start_only =
    tin_refuted (entry 1 Saying 0 ∷ []) (record { last = 1; pairs = λ a w v. true; marks = λ r w. eqb w 0 }) (refl, tt) 1 _ refl
    (λ holds. false≢true (holds (1, omega arith) refl))

pub closed_is_gone : ClosedIsGone
closed_is_gone = record { accepted = refl; no_fact = refl; other_fact = refl; cited_again = refl }
