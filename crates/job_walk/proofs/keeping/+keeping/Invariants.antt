use Rattle.std.proofs.Common.{◌≡◌, ◌+◌, ◌*◌, length, ◌++◌, map, take}
use Rattle.jsl_model.specs.Trees.{joined, nodes, nodes_of}
use Rattle.jsl_model.specs.declared.element.Element.{Element}
use Rattle.jsl_model.specs.declared.element.SplitFlow.{SplitFlow}
use Rattle.walk_rules.specs.Walk.{fact_of}
use Rattle.job_walk.specs.KeptLists.{kept_element, starts_from, kept_flow, value_kept, lists_in}
use Rattle.job_walk.proofs.keeping.+keeping.Given as goal

abbrev pub invariant-keep_each-loop-element : goal.invariant-keep_each-loop-element
invariant-keep_each-loop-element l =
    (l.lists.items ≡ l.initial.lists.items ++ joined (map (λ (e : Element). (kept_element (fact_of l.known) e).inside) (take l.element-index l.elements)))
    × (l.results ≡ map (λ (e : Element). (kept_element (fact_of l.known) e).row.own_result) (take l.element-index l.elements))
    × (l.starts ≡ starts_from 0 (map (λ (e : Element). (kept_element (fact_of l.known) e).inside) (take l.element-index l.elements)))

abbrev pub invariant-keep_element-loop-flow : goal.invariant-keep_element-loop-flow
invariant-keep_element-loop-flow l =
    (l.values.items ≡ map (λ (f : SplitFlow). value_kept (kept_flow (fact_of l.known) f)) (take l.flow-index l.flow-items))
    × (l.lists.items ≡ l.initial.lists.items ++ joined (map (λ (f : SplitFlow). lists_in (kept_flow (fact_of l.known) f)) (take l.flow-index l.flow-items)))

-- an element holds more than its lists, and a list more than its elements
abbrev pub decreases-keep_each : goal.decreases-keep_each
decreases-keep_each l = 4 * length (nodes l.elements.now) + 1

abbrev pub decreases-keep_list : goal.decreases-keep_list
decreases-keep_list l = 4 * length (nodes l.elements.now) + 2

abbrev pub decreases-keep_element : goal.decreases-keep_element
decreases-keep_element l = 4 * length (nodes_of l.element.now)

abbrev pub decreases-keep_first : goal.decreases-keep_first
decreases-keep_first l = 4 * length (nodes l.elements.now) + 3
