-- What a trail without entries leaves of the slice that it was lent.
use Rattle.std.proofs.Common.{◌≡◌, List, [], length, get_or, ap, ◌∙◌, arith}
use Rattle.std.proofs.lemmas.List.{length-take-le}
use Rattle.trail.specs.declared.blank.Blank.{Ghosts}
use Rattle.trail.specs.declared.trail.Trail.{Trail}
use Rattle.trail.specs.Places.{AllBlank}
use Rattle.trail.specs.Trails.{entries_of}

pub all_blank : {T : Type 0} {b : Ghosts T} (t : Trail T b) → entries_of t ≡ [] → (xs : List T) → xs ≡ t.places.now → AllBlank b.blank xs
all_blank {b = b} t none xs is k =
    ap (λ l. get_or l k b.blank) is ∙ t.sound.rest k (omega (arith, t.sound.fits, length-take-le t.len t.places.now (omega (arith, t.sound.fits)), ap length none))
