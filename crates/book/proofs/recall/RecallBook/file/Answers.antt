use Rattle.std.proofs.Common.{sym}
use Rattle.book.specs.Meaning.{Meaning, means}
use Rattle.book.specs.Sheet.{sheet_list}
use Rattle.book.proofs.Layers.{files_below}
use Rattle.book.proofs.recall.RecallBook.file.Goals as goal

pub returns-clause-after : goal.returns-clause-after
returns-clause-after g c =
    let old = c.args.self.now.below in
    let new = c.file.new.self in
    let was : Meaning = means (g.B.Register.live old) (g.B.Book.barred old) (g.B.Book.free old) in
    let left : Meaning = means (g.B.Register.live new) (g.B.Book.barred new) (g.B.Book.free new) in
    let unlisted = sym c.if-contains.ensures.answer in
    (files_below (sheet_list c.args.self.now.sheet) was c.args.entry c.file.result left unlisted c.file.ensures.answer c.file.ensures.after).after
