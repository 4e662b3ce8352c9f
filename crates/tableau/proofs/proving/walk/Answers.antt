use Rattle.std.proofs.Common.{◌≡◌, rules, length, sym, ◌∙◌, arith}
use Rattle.terms.specs.Named.{rows_of}
use Rattle.terms.proofs.Sound.{rows_sound}
use Rattle.soundness.specs.Given.{given}
use Rattle.soundness.specs.Walking.{stated}
use Rattle.soundness.specs.ProofFiles.{walked}
use Rattle.steps.proofs.Rooms.{all_blank}
use Rattle.tableau.proofs.Passes.{exactly_so, grounded}
use Rattle.tableau.proofs.proving.walk.Goals as goal

pub returns : goal.returns
returns g c =
    let names = c.args.names.now in
    let book = given (rows_of names) (g.R.Register.live c.args.book.now) in
    let bytes = c.args.file.now in
    let lim = stated (length c.args.facts.now) (length c.args.links.now) (length c.args.forks.now) in
    let walk = c.walk_with-answer in
    let is : walk.result ≡ walked lim book bytes = search rules in
    record {
      answer = is;
      exactly = exactly_so lim book bytes walk.result (omega arith) is;
      follows = grounded lim book bytes walk.result (omega arith) is (rows_sound names);
      blank_facts =
          let lent = sym (c.cut.ensures.places.lender ∙ walk.ensures.facts.lender ∙ c.new-facts.ensures.places.lender) in
          all_blank c.cut.new.self c.cut.ensures.after c.facts-3-1.given.0 (c.facts-3-1.given.1.1 lent);
      blank_links =
          let lent = sym (c.cut-2.ensures.places.lender ∙ walk.ensures.links.lender ∙ c.new-links.ensures.places.lender) in
          all_blank c.cut-2.new.self c.cut-2.ensures.after c.links-3-1.given.0 (c.links-3-1.given.1.1 lent);
      blank_forks =
          let lent = sym (c.cut-3.ensures.places.lender ∙ walk.ensures.forks.lender ∙ c.new-forks.ensures.places.lender) in
          all_blank c.cut-3.new.self c.cut-3.ensures.after c.forks-3-1.given.0 (c.forks-3-1.given.1.1 lent);
    }
