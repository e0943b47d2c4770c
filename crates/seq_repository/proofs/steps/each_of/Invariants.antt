use Rattle.std.proofs.Common.{◌≡◌, ◌++◌, map, drop, filter_map}
use Rattle.batch_history.specs.StepExecutions.{step_execution}
use Rattle.batch_history.specs.Walks.{job_named}
use Rattle.seq_repository.proofs.steps.each_of.Given as goal

abbrev pub invariant-loop-row : goal.invariant-loop-row
invariant-loop-row l =
    l.found.items
    ++ filter_map (step_execution (job_named l.catalogue l.owner.job) l.owner (map (λ work. work.now) l.works)) (map (λ work. work.now) (drop l.row-index l.works))
    ≡ filter_map (step_execution (job_named l.catalogue l.owner.job) l.owner (map (λ work. work.now) l.works)) (map (λ work. work.now) l.works)
