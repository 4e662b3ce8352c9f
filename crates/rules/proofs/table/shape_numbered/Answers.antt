use Rattle.std.proofs.Common.{◌≡◌, ℕ, ◌-◌, Bor, List, length, Some, None, Option, sym, refl, ap, ◌∙◌, arith}
use Rattle.std.specs.List.{slice_get}
use Rattle.std.specs.Option.{option_copied}
use Rattle.std.specs.Slice.{IsItemAt}
use Rattle.std.proofs.lemmas.Bool.{cond-false, ne_eqb}
use Rattle.std.proofs.lemmas.Option.{slice_get_past, slice_get_read}
use Rattle.rules.specs.Shapes.{shapes}
use Rattle.rules.proofs.table.shape_numbered.Goals as goal

-- the copy of what `get` lends
copied : {X : Type 0} (xs : List X) (i : ℕ) (lent : Option (Bor X)) → IsItemAt xs i lent → option_copied lent ≡ slice_get xs i
copied xs i None h = sym (slice_get_past xs i h.3)
copied xs i (Some x) h = sym (slice_get_read xs (length xs) i x.now refl h.3.0 h.1)

pub returns : goal.returns
returns c =
    let found = copied shapes c.in_ok-place.place c.get.result c.get.ensures.lookup in
    let place : c.in_ok-place.place ≡ c.args.code - 1 = omega (arith, c.in_ok-place.ensures) in
    c.copied.ensures ∙ found ∙ ap (slice_get shapes) place ∙ sym (cond-false _ _ _ (ne_eqb c.args.code 0 (λ e. omega (arith, c.in_ok-place.ensures))))
