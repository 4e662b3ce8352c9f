use Rattle.records.proofs.Cards.{new_sound, new_empty}
use Rattle.records.proofs.card.CardBook.new.Goals as goal

pub invariant_of-result : goal.invariant_of-result
invariant_of-result c = record { sound = new_sound }

pub returns : goal.returns
returns c = record { empty = new_empty }
