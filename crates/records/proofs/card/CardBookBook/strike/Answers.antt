use Rattle.std.proofs.Common.{not, is_some, sym, ap, ◌∙◌}
use Rattle.records.proofs.Cards.{card_cleared}
use Rattle.records.proofs.card.CardBookBook.strike.Goals as goal

pub returns-clause-after : goal.returns-clause-after
returns-clause-after c =
    let book = c.args.self.now in
    let live = ap is_some (sym c.lookup.ensures.answer) ∙ c.is_none.ensures ∙ ap not c.if-is_none.false in
    (card_cleared book.cards book.sound c.args.serial live).after
