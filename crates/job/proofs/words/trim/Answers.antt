use Rattle.std.proofs.Common.{ℕ, eqb, length, drop, sym, ap, ◌∙◌, arith, rules}
use Rattle.std.proofs.lemmas.List.{take_rest, drop_all}
use Rattle.std.proofs.lemmas.List.Sums.{prefix_len_is}
use Rattle.job.proofs.Splits.{trimmed_first}
use Rattle.job.proofs.words.trim.Goals as goal

pub returns-in-Some : goal.returns-in-Some
returns-in-Some c =
    let text = c.args.text.now in
    let spaces = prefix_len_is (λ (x : ℕ). eqb x 32) text c.in-Some.start 0 (search rules) (search rules) (search rules) in
    take_rest text _ ∙ sym (trimmed_first text ∙ ap (λ n. drop n text) spaces)

pub returns-in-None : goal.returns-in-None
returns-in-None c =
    let text = c.args.text.now in
    let spaces = prefix_len_is (λ (x : ℕ). eqb x 32) text (length text) 0 (omega arith) (search rules) (search rules) in
    sym (trimmed_first text ∙ ap (λ n. drop n text) spaces ∙ drop_all (length text) text (omega arith))
