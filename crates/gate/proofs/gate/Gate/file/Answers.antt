use Rattle.gate.proofs.AtGate.{filing_files}
use Rattle.gate.proofs.gate.Gate.file.Goals as goal

pub returns-clause-filed : goal.returns-clause-filed
returns-clause-filed g c =
    filing_files _ c.args.serial c.args.standing c.args.row _ _ c.file_row.ensures.answer c.file_row.ensures.after
