use Rattle.std.proofs.Common.{◌≡◌, ◌≤◌, length, map, take, set, vec_len, vec_capacity}
use Rattle.std.specs.Borrow.{Bor}
use Rattle.jsl_model.specs.Trees.{joined}
use Rattle.jsl_model.specs.declared.element.SplitFlow.{SplitFlow}
use Rattle.walk_rules.specs.declared.facts.Fact.{Fact}
use Rattle.walk_rules.specs.declared.facts.Value.{Value}
use Rattle.walk_rules.specs.declared.work_key.WorkKey.{WorkKey}
use Rattle.job_walk.specs.KeptLists.{KeepsFlows, kept_flow, value_kept, lists_in}
use Rattle.job_walk.proofs.split_flows.flow_values.Given as goal

abbrev pub invariant-loop-place : goal.invariant-loop-place
invariant-loop-place l =
    (vec_len l.values ≡ l.place)
    × (length l.flows ≤ vec_capacity l.values)
    × ((facts : WorkKey → Fact) → KeepsFlows facts l.flows l.lists
    → (l.start ≡ length (joined (map (λ (f : SplitFlow). lists_in (kept_flow facts f)) (take l.place l.flows))))
    × (map (λ (v : Bor Value). v.now) l.values.items ≡ take l.place (set (map (λ (f : SplitFlow). value_kept (kept_flow facts f)) l.flows) l.changed l.comes_to)))
