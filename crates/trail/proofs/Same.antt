-- Two trails with the same places and as many entries are the same trail.
use Rattle.std.proofs.Common.{◌≡◌, ℕ, List}
use Rattle.std.specs.Coded.{Coded, Coded-set, le_prop}
use mathlib.Core.HLevel.{is_prop→PathP}
use Rattle.trail.specs.declared.blank.Blank.{Ghosts}
use Rattle.trail.specs.declared.trail.Trail.{Trail}
use Rattle.trail.specs.Places.{Sound}

module _ {T : Type 0} (code : Coded T) where
  sound_prop : (blank : T) (places : List T) (len : ℕ) → IsProp (Sound blank places len)
  sound_prop blank places len x y = λ i. record {
    fits = le_prop x.fits y.fits i;
    rest = λ k past. Coded-set code _ _ (x.rest k past) (y.rest k past) i;
  }

  pub same_trail : {b : Ghosts T} (t u : Trail T b) → u.places ≡ t.places → u.len ≡ t.len → u ≡ t
  same_trail {b} t u places len = λ i. record {
    places = places i;
    len = len i;
    sound = is_prop→PathP (λ j. Sound b.blank (places j).now (len j)) (λ j. sound_prop b.blank (places j).now (len j)) u.sound t.sound i;
  }
