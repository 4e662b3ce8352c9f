use Rattle.records.proofs.Cards.{card_put}
use Rattle.records.proofs.card.CardBookBook.file.Goals as goal

pub returns : goal.returns
returns c =
    let book = c.args.self.now in
    let done = card_put book.cards book.sound c.args.entry c.if-entry-eq0.false c.if-entry-gt-LAST_CARD.false c.if-self-at-ne0.false in
    record { answer = done.answer; after = done.after; behind = tt }
