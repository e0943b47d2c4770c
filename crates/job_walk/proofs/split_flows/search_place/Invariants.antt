use Rattle.std.proofs.Common.{◌≡◌, length, map, take, drop, true}
use Rattle.jsl_model.specs.Trees.{joined}
use Rattle.jsl_model.specs.declared.element.SplitFlow.{SplitFlow}
use Rattle.walk_rules.specs.declared.facts.Fact.{Fact}
use Rattle.walk_rules.specs.declared.work_key.WorkKey.{WorkKey}
use Rattle.walk_rules.specs.Walk.{split_result}
use Rattle.job_walk.specs.KeptLists.{KeepsFlows, kept_flow, value_kept, lists_in, result_shows}
use Rattle.job_walk.proofs.ShownCounts.{all_show}
use Rattle.job_walk.proofs.split_flows.search_place.Given as goal

abbrev pub invariant-loop-place : goal.invariant-loop-place
invariant-loop-place l =
    (facts : WorkKey → Fact) → KeepsFlows facts l.flows l.lists
    → (l.start ≡ length (joined (map (λ (f : SplitFlow). lists_in (kept_flow facts f)) (take l.place l.flows))))
    × (result_shows l.key (split_result (map (λ (f : SplitFlow). value_kept (kept_flow facts f)) l.flows)) ≡ true
    → all_show l.key (map (λ (f : SplitFlow). value_kept (kept_flow facts f)) (drop l.place l.flows)) ≡ true)
