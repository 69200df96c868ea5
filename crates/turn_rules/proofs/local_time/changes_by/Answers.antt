use Rattle.std.proofs.Common.{rules}
use Rattle.std.proofs.lemmas.List.Sorted.{IsPartitionPoint-from_clause}
use Rattle.tail_book.specs.Numbers.{int_le}
use Rattle.turn_rules.proofs.Offsets.{rising_changes_part}
use Rattle.turn_rules.proofs.local_time.changes_by.Goals as goal

-- the list is parted, since the moments rise
pub returns-clause-parts : goal.returns-clause-parts
returns-clause-parts c =
    IsPartitionPoint-from_clause (λ change. int_le change.at c.args.t) c.args.changes.now _ c.partition_point.ensures.partitioned (rising_changes_part _ _ c.requires) (λ a r q k. search rules)
