use Rattle.std.proofs.Common.{ℕ, ◌+◌, eqb, length, take, drop, sym, ap, ◌∙◌, arith, rules, take_all}
use Rattle.std.proofs.lemmas.List.{take_rest, drop_all}
use Rattle.std.proofs.lemmas.List.Sums.{position_or_len_is}
use Rattle.job.proofs.Splits.{front_first, behind_first}
use Rattle.job.proofs.words.cut.Goals as goal

pub returns-in-Some : goal.returns-in-Some
returns-in-Some c =
    let text = c.args.text.now in
    let found = position_or_len_is (λ (x : ℕ). eqb x c.args.mark) text c.in-Some.end 0 (search rules) (search rules) (search rules) in
    record {
      before = ap (λ n. take n text) (sym found) ∙ sym (front_first c.args.mark text);
      after = take_rest text _ ∙ ap (λ n. drop (n + 1) text) (sym found) ∙ sym (behind_first c.args.mark text);
    }

pub returns-in-None : goal.returns-in-None
returns-in-None c =
    let text = c.args.text.now in
    let none = position_or_len_is (λ (x : ℕ). eqb x c.args.mark) text (length text) 0 (omega arith) (search rules) (search rules) in
    record {
      before = sym (front_first c.args.mark text ∙ ap (λ n. take n text) none ∙ take_all (length text) text (omega arith));
      after = sym (behind_first c.args.mark text ∙ ap (λ n. drop (n + 1) text) none ∙ drop_all (length text + 1) text (omega arith));
    }
