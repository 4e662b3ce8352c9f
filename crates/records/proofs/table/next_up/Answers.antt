use Rattle.std.proofs.Common.{leb, rules, ◌∙◌}
use Rattle.std.proofs.lemmas.List.Sorted.{IsPartitionPoint-from_clause, IsPartitionedBy-leb}
use Rattle.records.proofs.Searches.{serials_rise, parted_placed}
use Rattle.records.proofs.Held.{next_found}
use Rattle.records.proofs.table.next_up.Goals as goal

-- the closure tests whether a record's serial is at most the given one
pub returns : goal.returns
returns c =
    let xs = c.args.in_use.now in
    let s = c.args.serial in
    let at = c.partition_point-at.result in
    let rise = serials_rise xs c.requires.rising in
    let parted =
    IsPartitionPoint-from_clause (λ e. leb e.serial s) xs at c.partition_point-at.ensures.partitioned
    (IsPartitionedBy-leb (λ e. e.serial) xs s rise) (λ a r q k. search rules) in
    let placed = parted_placed xs s at c.partition_point-at.ensures.bound parted in
    c.copied.ensures ∙ next_found xs c.requires s at placed c.get.result c.get.ensures.lookup
