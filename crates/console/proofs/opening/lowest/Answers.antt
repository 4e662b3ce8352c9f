use Rattle.std.proofs.Common.{sym, ap, ◌∙◌}
use Rattle.job.specs.declared.command.Ground.{Ground}
use Rattle.job.specs.Books.{floor_of}
use Rattle.console.specs.Openings.{floor_means}
use Rattle.console.proofs.opening.lowest.Goals as goal

pub returns-in-Ledger : goal.returns-in-Ledger
returns-in-Ledger c =
    record {
      means = c.new.ensures.empty ∙ ap (λ (g : Ground). floor_means (floor_of g)) (sym c.in-Ledger.is);
    }
