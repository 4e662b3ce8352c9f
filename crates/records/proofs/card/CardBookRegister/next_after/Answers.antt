use Rattle.std.proofs.Common.{rules, tests, ap, ◌∙◌}
use Rattle.std.specs.Slice.Iter.{iter_rest}
use Rattle.std.proofs.lemmas.Iterator.{YieldsList-from_slice, first_from_find}
use Rattle.std.proofs.lemmas.Iterator.Adapters.{YieldsList-from_skip}
use Rattle.records.proofs.Cards.{Used, Unused, card_found}
use Rattle.records.proofs.card.CardBookRegister.next_after.Goals as goal

-- the closure tests whether a card is in use
pub returns : goal.returns
returns c =
    let book = c.args.self.now in
    let later = YieldsList-from_skip {s = c.skip-later.result} c.args.serial (YieldsList-from_slice book.cards (ap iter_rest c.skip-later.ensures.source ∙ c.iter.ensures.rest)) c.skip-later.ensures.count in
    let first = first_from_find _ _ c.find.result Used Unused c.find.ensures.ran later (λ x q k. search (rules, tests)) (λ x q k. search (rules, tests)) in
    record { answer = c.copied.ensures ∙ card_found book.cards book.sound c.args.serial c.find.result first }
