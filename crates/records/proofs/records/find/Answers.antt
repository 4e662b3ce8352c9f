use Rattle.std.proofs.Common.{rules}
use Rattle.std.proofs.lemmas.List.Sorted.{answers_always}
use Rattle.records.proofs.Searches.{searched}
use Rattle.records.proofs.records.find.Goals as goal

-- the closure gives a record's serial
pub returns : goal.returns
returns c =
    let facts = c.binary_search_by_key.ensures in
    let by_serial = facts.position (λ e. e.serial) (answers_always _ _ _ (λ f a r g called. search rules)) in
    searched c.args.records.now c.requires c.args.serial _ facts.bound by_serial
