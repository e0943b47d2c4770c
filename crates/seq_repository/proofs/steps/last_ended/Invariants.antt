use Rattle.std.proofs.Common.{◌≡◌, map, drop, find}
use Rattle.std.specs.List.{list_all}
use Rattle.batch_history.specs.StepExecutions.{ended_by, last_ended}
use Rattle.seq_repository.proofs.steps.last_ended.Given as goal

abbrev pub invariant-loop-row : goal.invariant-loop-row
invariant-loop-row l =
    find (λ row. list_all (λ other. ended_by other.ended row.ended) (map (λ row. row.now) l.items)) (map (λ row. row.now) (drop l.row-index l.items))
    ≡ last_ended (map (λ row. row.now) l.items)
