-- The shape of a line tells its code and its rule.
--
-- code r        the code of the rule r
-- shape_of r    the shape at its place in the table
use Rattle.std.proofs.Common.{◌≡◌, ℕ, ◌+◌, ◌-◌, Bool, true, ◌&&◌, eqb, get_or, Some, None, Option, sym, ap, ◌∙◌, subst, arith}
use Rattle.std.specs.List.{slice_get, range_with_len}
use Rattle.std.specs.Option.{option_map}
use Rattle.std.proofs.lemmas.Bool.{and_parts, cond_both, eqb-false}
use Rattle.std.proofs.lemmas.List.FromFn.{get_or-range_with_len}
use Rattle.std.proofs.lemmas.Option.{cond_some, get_or_from_slice_get, slice_get-map, slice_get_within}
use Rattle.rules.specs.declared.line.Line.{Line}
use Rattle.rules.specs.declared.line.Use.TheVariants.{Unused}
use Rattle.rules.specs.declared.rule.Rule.{Rule}
use Rattle.rules.specs.declared.rule.Rule.TheVariants.{CiteRule, CiteSaying, Not, AndTrue, AndFalse, SaysTrue, SaysFalse, SpeaksForTrue, SpeaksForFalse, BothLinked, QuotingLinked, IntoBoth, IntoQuoting, FactsClash, LinksClash}
use Rattle.rules.specs.declared.table.Shape.{Shape}
use Rattle.rules.specs.Shapes.{shape, shapes, shape_numbered, idle, if_idle, shaped}

abbrev pub code : Rule → ℕ
code CiteRule = 1
code CiteSaying = 2
code Not = 3
code AndTrue = 4
code AndFalse = 5
code SaysTrue = 6
code SaysFalse = 7
code SpeaksForTrue = 8
code SpeaksForFalse = 9
code BothLinked = 10
code QuotingLinked = 11
code IntoBoth = 12
code IntoQuoting = 13
code FactsClash = 14
code LinksClash = 15

abbrev nothing : Rule → Shape
nothing r = shape r Unused Unused Unused

abbrev pub shape_of : Rule → Shape
shape_of r = get_or shapes (code r - 1) (nothing r)

-- the codes of the table are the numbers from 1 on
numbered : (i : ℕ) (s : Shape) → slice_get shapes i ≡ Some s → code s.rule ≡ i + 1
numbered i s e =
    let within = slice_get_within shapes i s e in
    let found : slice_get (range_with_len 1 15) i ≡ Some (code s.rule) = slice_get-map (λ (t : Shape). code t.rule) shapes i ∙ ap (option_map (λ (t : Shape). code t.rule)) e in
    omega (arith, get_or_from_slice_get (range_with_len 1 15) i (code s.rule) 0 found, get_or-range_with_len 1 15 i 0 within)

pub record Shaped (l : Line) (s : Shape) : Type 0 where
  pub coded : l.code ≡ code s.rule
  pub is : s ≡ shape_of s.rule
  pub a_idle : idle s.a l.a ≡ true
  pub b_idle : idle s.b l.b ≡ true
  pub c_idle : idle s.c l.c ≡ true

abbrev idles : Line → Shape → Bool
idles l s = idle s.a l.a && (idle s.b l.b && idle s.c l.c)

idle_some : (l : Line) (o : Option Shape) (s : Shape) → if_idle l o ≡ Some s → (o ≡ Some s) × (idles l s ≡ true)
idle_some l None s e = cc
idle_some l (Some r) s e =
    let h = cond_some (idles l r) r s e in
    (ap Some h.1, subst (λ t. idles l t ≡ true) h.1 h.0)

shape_found : (n : ℕ) (s : Shape) → shape_numbered n ≡ Some s → (n ≡ code s.rule) × (s ≡ shape_of s.rule)
shape_found n s e =
    cond_both (eqb n 0) None (slice_get shapes (n - 1)) (λ o. o ≡ Some s → (n ≡ code s.rule) × (s ≡ shape_of s.rule))
    (λ _ none. cc)
    (λ is found.
    let coded = numbered (n - 1) s found in
    let place : code s.rule - 1 ≡ n - 1 = omega (arith, coded) in
    (omega (arith, eqb-false n 0 is, coded), sym (get_or_from_slice_get shapes (code s.rule - 1) s (nothing s.rule) (ap (slice_get shapes) place ∙ found))))
    e

pub shaped_so : (l : Line) (s : Shape) → shaped l ≡ Some s → Shaped l s
shaped_so l s e =
    let found = idle_some l (shape_numbered l.code) s e in
    let known = shape_found l.code s found.0 in
    let parts = and_parts _ _ found.1 in
    let rest = and_parts _ _ parts.1 in
    record { coded = known.0; is = known.1; a_idle = parts.0; b_idle = rest.0; c_idle = rest.1 }
