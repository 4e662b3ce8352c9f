-- The table of rules: what the operands of a line are used for, and how many places a line takes up, both by its code alone.
--
-- shapes            the rules in the order of their codes, from 1, with the uses of their operands
-- shape_numbered n  the shape of the code n, if there is one
-- idle u n          the operand n may stand where the use is u: an unused operand is 0
-- shaped l          the shape of the line l, if its code is known and its unused operands are 0
-- places f l w k c  so many facts, links, worlds and forks, and whether the branch closes
-- takes r           what a line of the rule r adds and takes
use Rattle.std.specs.Prelude.{ℕ, ◌-◌, Bool, true, false, cond, ◌&&◌, List, [], ◌∷◌, Some, None, Option, ◌==◌}
use Rattle.std.specs.List.{slice_get}
use Rattle.rules.specs.declared.line.Line.{Line}
use Rattle.rules.specs.declared.line.Use.{Use}
use Rattle.rules.specs.declared.line.Use.TheVariants.{Fact, Link, World, Row, Serial, Unused}
use Rattle.rules.specs.declared.rule.Rule.{Rule}
use Rattle.rules.specs.declared.rule.Rule.TheVariants.{CiteRule, CiteSaying, Not, AndTrue, AndFalse, SaysTrue, SaysFalse, SpeaksForTrue, SpeaksForFalse, BothLinked, QuotingLinked, IntoBoth, IntoQuoting, FactsClash, LinksClash}
use Rattle.rules.specs.declared.table.Places.{Places}
use Rattle.rules.specs.declared.table.Shape.{Shape}

abbrev pub shape : Rule → Use → Use → Use → Shape
shape rule a b c = record { rule = rule; a = a; b = b; c = c }

abbrev pub shapes : List Shape
shapes =
    shape CiteRule Serial World Unused ∷
    shape CiteSaying Serial Unused Unused ∷
    shape Not Fact Unused Unused ∷
    shape AndTrue Fact Unused Unused ∷
    shape AndFalse Fact Unused Unused ∷
    shape SaysTrue Fact Link Unused ∷
    shape SaysFalse Fact Unused Unused ∷
    shape SpeaksForTrue Fact Link Unused ∷
    shape SpeaksForFalse Fact Unused Unused ∷
    shape BothLinked Link Unused Unused ∷
    shape QuotingLinked Link Unused Unused ∷
    shape IntoBoth Link Row Unused ∷
    shape IntoQuoting Link Link Row ∷
    shape FactsClash Fact Fact Unused ∷
    shape LinksClash Link Link Unused ∷
    []

abbrev pub shape_numbered : ℕ → Option Shape
shape_numbered n = cond (n == 0) None (slice_get shapes (n - 1))

abbrev pub idle : Use → ℕ → Bool
idle Unused n = n == 0
idle _ n = true

abbrev pub if_idle : Line → Option Shape → Option Shape
if_idle l None = None
if_idle l (Some s) = cond (idle s.a l.a && (idle s.b l.b && idle s.c l.c)) (Some s) None

abbrev pub shaped : Line → Option Shape
shaped l = if_idle l (shape_numbered l.code)

abbrev pub places : ℕ → ℕ → ℕ → ℕ → Bool → Places
places facts links worlds forks closes = record { facts = facts; links = links; worlds = worlds; forks = forks; closes = closes }

abbrev pub takes : Rule → Places
takes CiteRule = places 1 0 0 0 false
takes CiteSaying = places 1 0 0 0 false
takes Not = places 1 0 0 0 false
takes AndTrue = places 2 0 0 0 false
takes AndFalse = places 1 0 0 1 false
takes SaysTrue = places 1 0 0 0 false
takes SaysFalse = places 1 1 1 0 false
takes SpeaksForTrue = places 0 1 0 0 false
takes SpeaksForFalse = places 0 2 2 0 false
takes BothLinked = places 0 1 0 1 false
takes QuotingLinked = places 0 2 1 0 false
takes IntoBoth = places 0 1 0 0 false
takes IntoQuoting = places 0 1 0 0 false
takes FactsClash = places 0 0 0 0 true
takes LinksClash = places 0 0 0 0 true
