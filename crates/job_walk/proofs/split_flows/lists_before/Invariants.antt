use Rattle.std.proofs.Common.{◌≡◌, length, map, take}
use Rattle.jsl_model.specs.Trees.{joined}
use Rattle.jsl_model.specs.declared.element.SplitFlow.{SplitFlow}
use Rattle.walk_rules.specs.declared.facts.Fact.{Fact}
use Rattle.walk_rules.specs.declared.work_key.WorkKey.{WorkKey}
use Rattle.job_walk.specs.KeptLists.{KeepsFlows, kept_flow, lists_in}
use Rattle.job_walk.proofs.split_flows.lists_before.Given as goal

abbrev pub invariant-loop-before : goal.invariant-loop-before
invariant-loop-before l =
    (facts : WorkKey → Fact) → KeepsFlows facts l.flows l.lists
    → (l.start ≡ length (joined (map (λ (f : SplitFlow). lists_in (kept_flow facts f)) (take l.before l.flows))))
