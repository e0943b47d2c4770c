use Rattle.std.proofs.Common.{◌≡◌, map, drop}
use Rattle.std.specs.List.{list_all}
use Rattle.batch_history.specs.StepExecutions.{ended_by}
use Rattle.seq_repository.proofs.steps.are_ended_by.Given as goal

abbrev pub invariant-loop-row : goal.invariant-loop-row
invariant-loop-row l =
    list_all (λ other. ended_by other.ended l.last.ended) (map (λ row. row.now) (drop l.row-index l.items))
    ≡ list_all (λ other. ended_by other.ended l.last.ended) (map (λ row. row.now) l.items)
