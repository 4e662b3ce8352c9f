-- How a standing is numbered.
--
-- standing_number s           1 for a rule, 2 for a saying
-- standing_numbered n         the standing with the number n
-- StandingNumbered n r        r is the standing with the number n, or denial 4 where there is none
use Rattle.std.specs.Prelude.{◌≡◌, ℕ, cond, Some, None, Option, Result, MatchResult, ◌==◌}
use Rattle.denials.specs.declared.denial.Denial.{Denial}
use Rattle.denials.specs.Denials.{denied}
use Rattle.book.specs.declared.entry.Standing.{Standing}
use Rattle.book.specs.declared.entry.Standing.TheVariants.{Rule, Saying}

abbrev pub standing_number : Standing → ℕ
standing_number Rule = 1
standing_number Saying = 2

abbrev pub standing_numbered : ℕ → Option Standing
standing_numbered n = cond (n == 1) (Some Rule) (cond (n == 2) (Some Saying) None)

abbrev pub StandingNumbered : ℕ → Result Standing Denial → Type 0
StandingNumbered n r = MatchResult r (λ s. standing_numbered n ≡ Some s) (λ d. (standing_numbered n ≡ None) × (d ≡ denied 4 0))
