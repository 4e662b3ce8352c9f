use Rattle.std.proofs.Common.{sym, ◌∙◌}
use Rattle.job.proofs.Exactness.{reading_words, exactly}
use Rattle.job.proofs.reading.read_line.Goals as goal

pub returns : goal.returns
returns c =
    let line = c.args.line.now in
    let answer = c.read_words.ensures ∙ sym (reading_words line _ _ c.if-starts_with.ensures.value c.in_ok-first.ensures.first) in
    record { answer = answer; exactly = exactly line _ answer }
