use Rattle.std.proofs.Common.{◌≡◌, ◌++◌, map, drop}
use Rattle.jsl_model.specs.Trees.{joined}
use Rattle.batch_history.specs.JobSteps.{all_steps, steps_of_flow}
use Rattle.restart_rules.specs.Restarting.{job_step}
use Rattle.restart_rules.proofs.steps.+gathering.Given as goal

abbrev pub invariant-add_flows-loop-flow : goal.invariant-add_flows-loop-flow
invariant-add_flows-loop-flow l =
    map job_step l.steps.items ++ joined (map steps_of_flow (drop l.flow-index l.flows))
    ≡ map job_step l.fn.steps.items ++ joined (map steps_of_flow l.flows)

abbrev pub invariant-add_all-loop-element : goal.invariant-add_all-loop-element
invariant-add_all-loop-element l =
    map job_step l.steps.items ++ all_steps (drop l.element-index l.elements)
    ≡ map job_step l.fn.steps.items ++ all_steps l.elements
