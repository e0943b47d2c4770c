use Rattle.std.proofs.Common.{◌≡◌, ◌++◌, Some, map}
use Rattle.job_plans.specs.Cursors.{step_at_first}
use Rattle.walk_rules.specs.Keys.{key_of, numbers_to}
use Rattle.walk_rules.specs.Walk.{known_of}
use Rattle.job_walk.proofs.first_facts.add_step.Given as goal

abbrev pub invariant-loop-partition : goal.invariant-loop-partition
invariant-loop-partition l =
    l.facts.items ≡ l.fn.facts.items ++ known_of (step_at_first l.plan l.known (Some l.count)) (map (key_of l.id) (numbers_to l.partition))
