use Rattle.std.proofs.Common.{◌≡◌, Some, sym, ap, ◌∙◌, arith, eqb-true}
use Rattle.std.proofs.lemmas.Bool.Decides.{nat_tests}
use Rattle.terms.specs.Named.{rows_of}
use Rattle.terms.specs.Written.{statement_written}
use Rattle.terms.proofs.Sound.{rows_sound, sound_apart}
use Rattle.terms.proofs.names.Names.same_statement.Goals as goal

pub returns : goal.returns
returns c =
    let t = rows_of c.args.self.now in
    record {
      answer = λ s u at_a at_b. (
        (λ e. let number : c.args.a ≡ c.args.b = omega (arith, eqb-true) in let same = ap (statement_written t) number in (cc)),
        (λ e. let number : c.args.a ≡ c.args.b = (sound_apart t (rows_sound c.args.self.now)).statements c.args.a c.args.b s at_a (at_b ∙ ap Some (sym e)) in grind (arith, nat_tests)),
      );
    }
