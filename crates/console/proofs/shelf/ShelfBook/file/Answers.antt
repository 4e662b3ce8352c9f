use Rattle.std.proofs.Common.{sym, ap, ◌∙◌}
use Rattle.book.specs.Meaning.{means, file_after}
use Rattle.console.specs.declared.shelf.Shelf.{Shelf}
use Rattle.console.specs.Shelves.{shelf_live, shelf_barred, shelf_free}
use Rattle.console.proofs.shelf.ShelfBook.file.Goals as goal

pub returns-in-Ledger-clause-after : goal.returns-in-Ledger-clause-after
returns-in-Ledger-clause-after c =
    c.file.ensures.after ∙ ap (λ (b : Shelf). file_after (means (shelf_live b) (shelf_barred b) (shelf_free b)) c.args.entry) (sym c.in-Ledger.is)
