use Rattle.terms.specs.Named.{rows_of}
use Rattle.terms.proofs.Sound.{rows_sound, principal_lawful}
use Rattle.terms.proofs.names.Names.principal.Goals as goal

pub returns-clause-lawful : goal.returns-clause-lawful
returns-clause-lawful c = principal_lawful (rows_of c.args.self.now) (rows_sound c.args.self.now) c.args.form c.args.x c.args.y

pub returns-in_err-row-clause-lawful : goal.returns-in_err-row-clause-lawful
returns-in_err-row-clause-lawful c = principal_lawful (rows_of c.args.self.now) (rows_sound c.args.self.now) c.args.form c.args.x c.args.y
