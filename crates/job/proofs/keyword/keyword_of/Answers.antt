use Rattle.std.proofs.Common.{codes, sym, ap, arith}
use Rattle.std.proofs.lemmas.Slice.Eq.{text_from_reads}
use Rattle.job.specs.Keywords.{keyword}
use Rattle.job.proofs.keyword.keyword_of.Goals as goal

pub returns-in-strike : goal.returns-in-strike
returns-in-strike c =
    sym (ap keyword (text_from_reads c.args.text.now (codes "strike") (omega arith) (grind arith)))

pub returns-in-principal : goal.returns-in-principal
returns-in-principal c =
    sym (ap keyword (text_from_reads c.args.text.now (codes "principal") (omega arith) (grind arith)))

pub returns-in-statement : goal.returns-in-statement
returns-in-statement c =
    sym (ap keyword (text_from_reads c.args.text.now (codes "statement") (omega arith) (grind arith)))
