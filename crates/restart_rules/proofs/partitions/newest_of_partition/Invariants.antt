use Rattle.std.proofs.Common.{◌≡◌, map, drop, filter}
use Rattle.std.specs.List.{last_or}
use Rattle.std.specs.Option.{option_copied}
use Rattle.batch_history.specs.Partitions.{is_of_partition, newest_of_partition}
use Rattle.restart_rules.proofs.partitions.newest_of_partition.Given as goal

abbrev pub invariant-loop-row : goal.invariant-loop-row
invariant-loop-row l =
    last_or (option_copied l.newest) (filter (is_of_partition l.partition) (map (λ row. row.now) (drop l.row-index l.works)))
    ≡ newest_of_partition (map (λ row. row.now) l.works) l.partition
