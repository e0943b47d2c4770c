use Rattle.std.proofs.Common.{◌≡◌, ◌++◌, map, drop}
use Rattle.batch_history.specs.StepExecutions.{same_step}
use Rattle.seq_repository.proofs.steps.same_step.Given as goal

abbrev pub invariant-loop-work : goal.invariant-loop-work
invariant-loop-work l =
    map (λ item. item.now) l.items.items ++ same_step (map (λ work. work.now) (drop l.work-index l.works)) l.row
    ≡ same_step (map (λ work. work.now) l.works) l.row
