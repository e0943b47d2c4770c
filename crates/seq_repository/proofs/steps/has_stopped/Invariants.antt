use Rattle.std.proofs.Common.{◌≡◌, map, drop}
use Rattle.std.specs.List.{list_any}
use Rattle.batch_history.specs.StepExecutions.{is_stopped}
use Rattle.seq_repository.proofs.steps.has_stopped.Given as goal

abbrev pub invariant-loop-row : goal.invariant-loop-row
invariant-loop-row l =
    list_any (λ row. is_stopped row.state) (map (λ row. row.now) (drop l.row-index l.items)) ≡ list_any (λ row. is_stopped row.state) (map (λ row. row.now) l.items)
