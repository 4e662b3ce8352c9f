-- Walking a proof line by line, computed.
--
-- Limits                        how many facts, links, forks and worlds a walk may hold, and how many lines a proof may have
-- stated f l k                  the limits where tables for f facts, l links and k forks are handed in: the first 4,096 places of each count, 1,024 worlds, 8,000 lines
-- Within lim p                  what the walk holds at p is within the limits
-- Roomy lim p                   each fork has a place for the alternative that it keeps
-- on d o k                      goes on with what o has, or is denied with d
-- further r k                   goes on with what was answered, or keeps the denial
-- operand t b use n             what the operand n of a line on the branch b cites, used so
-- cited g rule o                a serial becomes the row of its entry, if a live entry has the standing that the rule cites and its row is named; every other operand stays
-- line_move g b s l n           what the line l, number n, does; denied 22, 23 or 24
-- sizes e                       what the effect e adds and takes
-- Room lim b fs p               the places p are still free
-- roomy lim b fs p              whether they are
-- line_walked lim g b fs l n    how far the proof has come after the line; denied 21 to 25
-- lines_walked lim g n p ls     done, if the lines ls behind the first n complete the proof; denied 20 to 26
use Rattle.std.specs.Prelude.{ℕ, ◌+◌, ◌<◌, ◌≤◌, min, Bool, true, false, cond, ◌&&◌, List, [], ◌∷◌, length, is_some, Some, None, Ok, Err, Option, Result, nat_le, nat_lt}
use Rattle.std.specs.List.{slice_get}
use Rattle.std.specs.Option.{ok_or}
use Rattle.denials.specs.declared.denial.Denial.{Denial}
use Rattle.denials.specs.Denials.{denied}
use Rattle.terms.specs.declared.row.PrincipalRow.{PrincipalRow}
use Rattle.terms.specs.Written.{Rows}
use Rattle.book.specs.declared.entry.Entry.{Entry}
use Rattle.book.specs.declared.entry.Standing.{Standing}
use Rattle.book.specs.declared.entry.Standing.TheVariants.{Rule, Saying}
use Rattle.rules.specs.declared.branch.Fact.{Fact}
use Rattle.rules.specs.declared.branch.Fork.{Fork}
use Rattle.rules.specs.declared.branch.Link.{Link}
use Rattle.rules.specs.declared.branch.Side.{Side}
use Rattle.rules.specs.declared.branch.Side.TheVariants as sides
use Rattle.rules.specs.declared.line.Line.{Line}
use Rattle.rules.specs.declared.line.Use.{Use}
use Rattle.rules.specs.declared.line.Use.TheVariants as uses
use Rattle.rules.specs.declared.moves.Move.{Move}
use Rattle.rules.specs.declared.moves.Operand.{Operand}
use Rattle.rules.specs.declared.moves.Operand.TheVariants as operands
use Rattle.rules.specs.declared.rule.Rule.{Rule as Code}
use Rattle.rules.specs.declared.rule.Rule.TheVariants as codes
use Rattle.rules.specs.declared.table.Places.{Places}
use Rattle.rules.specs.declared.table.Shape.{Shape}
use Rattle.rules.specs.Branches.{Branch, Effect, adds, forks, closes, Progress, going, complete, moved}
use Rattle.rules.specs.Fits.{fits, effect}
use Rattle.rules.specs.Shapes.{shaped, places, takes}
use Rattle.soundness.specs.Given.{Given}

pub record Limits : Type 0 where
  pub facts : ℕ
  pub links : ℕ
  pub forks : ℕ
  pub worlds : ℕ
  pub lines : ℕ

abbrev pub stated : ℕ → ℕ → ℕ → Limits
stated f l k =
    record { facts = min 4096 f; links = min 4096 l; forks = min 4096 k; worlds = 1024; lines = 8000 }

pub record Held (lim : Limits) (b : Branch) (fs : List Fork) : Type 0 where
  pub facts : length b.facts ≤ lim.facts
  pub links : length b.links ≤ lim.links
  pub forks : length fs ≤ lim.forks
  pub worlds : b.worlds ≤ lim.worlds

abbrev pub Within : Limits → Progress → Type 0
Within lim complete = Unit {0}
Within lim (going b fs) = Held lim b fs

abbrev pub SideFits : Limits → Fork → Side → Type 0
SideFits lim f (sides.Fact x) = f.facts < lim.facts
SideFits lim f (sides.Link x) = f.links < lim.links

pub record ForkFits (lim : Limits) (f : Fork) : Type 0 where
  pub side : SideFits lim f f.kept
  pub worlds : f.worlds ≤ lim.worlds

abbrev pub ForksFit : Limits → List Fork → Type 0
ForksFit lim [] = Unit {0}
ForksFit lim (f ∷ fs) = ForkFits lim f × ForksFit lim fs

abbrev pub Roomy : Limits → Progress → Type 0
Roomy lim complete = Unit {0}
Roomy lim (going b fs) = ForksFit lim fs

abbrev pub on : {X Y : Type 0} → Denial → Option X → (X → Result Y Denial) → Result Y Denial
on d None k = Err d
on d (Some x) k = k x

abbrev pub further : {X Y : Type 0} → Result X Denial → (X → Result Y Denial) → Result Y Denial
further (Err d) k = Err d
further (Ok x) k = k x

abbrev pub cite_fact : Rows → Option Fact → Option Operand
cite_fact t None = None
cite_fact t (Some f) = Some (operands.Fact f (slice_get t.statements f.row))

abbrev pub cite_link : Rows → Option Link → Option Operand
cite_link t None = None
cite_link t (Some l) = Some (operands.Link l (slice_get t.principals l.row))

abbrev pub cite_row : ℕ → Option PrincipalRow → Option Operand
cite_row n None = None
cite_row n (Some r) = Some (operands.Row n r)

abbrev pub operand : Rows → Branch → Use → ℕ → Option Operand
operand t b uses.Fact n = cite_fact t (slice_get b.facts n)
operand t b uses.Link n = cite_link t (slice_get b.links n)
operand t b uses.World n = cond (nat_lt n b.worlds) (Some (operands.World n)) None
operand t b uses.Row n = cite_row n (slice_get t.principals n)
operand t b uses.Serial n = Some (operands.Serial n)
operand t b uses.Unused n = Some operands.Unused

-- code 1 cites rules and code 2 sayings
abbrev pub cites : Code → Standing → Bool
cites codes.CiteRule Rule = true
cites codes.CiteSaying Saying = true
cites _ _ = false

abbrev pub cite_entry : Rows → Code → Option Entry → Option Operand
cite_entry t rule None = None
cite_entry t rule (Some e) =
    cond (cites rule e.standing && is_some (slice_get t.statements e.row)) (Some (operands.Entry e.row)) None

abbrev pub cited : Given → Code → Operand → Option Operand
cited g rule (operands.Serial n) = cite_entry g.rows rule (g.live n)
cited g rule o = Some o

abbrev pub line_move : Given → Branch → Shape → Line → ℕ → Result Move Denial
line_move g b s l n =
    on (denied 22 n) (operand g.rows b s.a l.a) (λ x.
    on (denied 22 n) (operand g.rows b s.b l.b) (λ y.
    on (denied 22 n) (operand g.rows b s.c l.c) (λ z.
    on (denied 23 n) (cited g s.rule x) (λ o.
    ok_or (fits s.rule o y z b.worlds (b.worlds + 1)) (denied 24 n)))))

-- what an effect adds and takes
abbrev pub side_sizes : Side → Places
side_sizes (sides.Fact f) = places 1 0 0 1 false
side_sizes (sides.Link l) = places 0 1 0 1 false

abbrev pub sizes : Effect → Places
sizes (adds n fs ls) = places (length fs) (length ls) n 0 false
sizes (forks goes_on kept) = side_sizes goes_on
sizes closes = places 0 0 0 0 true

pub record Room (lim : Limits) (b : Branch) (fs : List Fork) (p : Places) : Type 0 where
  pub facts : length b.facts + p.facts ≤ lim.facts
  pub links : length b.links + p.links ≤ lim.links
  pub worlds : b.worlds + p.worlds ≤ lim.worlds
  pub forks : length fs + p.forks ≤ lim.forks

abbrev pub roomy : Limits → Branch → List Fork → Places → Bool
roomy lim b fs p =
    nat_le (length b.facts + p.facts) lim.facts && (nat_le (length b.links + p.links) lim.links &&
    (nat_le (b.worlds + p.worlds) lim.worlds && nat_le (length fs + p.forks) lim.forks))

abbrev pub line_walked : Limits → Given → Branch → List Fork → Line → ℕ → Result Progress Denial
line_walked lim g b fs l n =
    on (denied 21 n) (shaped l) (λ s.
    further (line_move g b s l n) (λ m.
    cond (roomy lim b fs (takes s.rule)) (Ok (moved b fs (effect m))) (Err (denied 25 n))))

abbrev pub lines_walked : Limits → Given → ℕ → Progress → List Line → Result (Unit {0}) Denial
lines_walked lim g n complete [] = Ok tt
lines_walked lim g n (going b fs) [] = Err (denied 26 n)
lines_walked lim g n complete (l ∷ ls) = Err (denied 20 (n + 1))
lines_walked lim g n (going b fs) (l ∷ ls) =
    further (line_walked lim g b fs l (n + 1)) (λ p. lines_walked lim g (n + 1) p ls)
