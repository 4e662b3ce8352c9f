use Rattle.std.proofs.Common.{map, sym, ap, ◌∙◌}
use Rattle.std.specs.Simd.{first_chunks}
use Rattle.std.proofs.lemmas.List.{take_rest}
use Rattle.soundness.specs.ProofFiles.{lines_from}
use Rattle.tableau.specs.Lines.{line_of}
use Rattle.tableau.proofs.Chunks.{lines_are}
use Rattle.tableau.proofs.proving.read_proof.Goals as goal

pub returns-clause-lines : goal.returns-clause-lines
returns-clause-lines c =
    let file = c.args.file.now in
    let cut = c.as_chunks.ensures in
    ap (map line_of) (cut.front ∙ ap (first_chunks 7 _) (take_rest file 10)) ∙ lines_are file _ 0 ∙ ap (lines_from file 0) (sym cut.front_len)
