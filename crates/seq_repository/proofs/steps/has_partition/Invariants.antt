use Rattle.std.proofs.Common.{◌≡◌, map, drop}
use Rattle.std.specs.List.{list_any}
use Rattle.batch_history.specs.Lists.{is_at}
use Rattle.seq_repository.proofs.steps.has_partition.Given as goal

abbrev pub invariant-loop-row : goal.invariant-loop-row
invariant-loop-row l =
    list_any (λ row. is_at l.partition row.partition) (map (λ row. row.now) (drop l.row-index l.items)) ≡ list_any (λ row. is_at l.partition row.partition) (map (λ row. row.now) l.items)
