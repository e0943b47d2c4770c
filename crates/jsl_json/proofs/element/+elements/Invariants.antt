use Rattle.std.proofs.Common.{◌≡◌, ◌+◌, ◌*◌, map, drop}
use Rattle.serde_json.specs.Data.{depth, items_depth}
use Rattle.serde_json.specs.View.{view, items_view}
use Rattle.jsl_model.specs.Parts.{element_of, flow_of}
use Rattle.jsl_json.specs.MemberViews.{kind_in}
use Rattle.jsl_json.specs.Elements.{elements_at, flows_at}
use Rattle.jsl_json.proofs.Nesting.{kind_depth}
use Rattle.jsl_json.proofs.Lists.{with_front}
use Rattle.jsl_json.proofs.element.+elements.Given as goal

-- what was read, ahead of what is left, is all of it
abbrev pub invariant-elements_at-loop-value : goal.invariant-elements_at-loop-value
invariant-elements_at-loop-value l = with_front (map element_of l.elements.items) (elements_at l.job (items_view (drop l.value-index l.list)) l.next) ≡ elements_at l.job (items_view l.list) l.number

abbrev pub invariant-flows_at-loop-value : goal.invariant-flows_at-loop-value
invariant-flows_at-loop-value l = with_front (map flow_of l.flows.items) (flows_at l.job (items_view (drop l.value-index l.list)) l.next) ≡ flows_at l.job (items_view l.list) l.number

-- what a list is in lies deeper than the list, and an element deeper than what it is
abbrev pub decreases-element_at : goal.decreases-element_at
decreases-element_at l = 4 * depth (view l.value.now)

abbrev pub decreases-flow_at : goal.decreases-flow_at
decreases-flow_at l = 4 * depth (view l.value.now)

abbrev pub decreases-body_at : goal.decreases-body_at
decreases-body_at l = 4 * kind_depth (kind_in l.kind) + 2

abbrev pub decreases-elements_at : goal.decreases-elements_at
decreases-elements_at l = 4 * items_depth (items_view l.list.now) + 1

abbrev pub decreases-flows_at : goal.decreases-flows_at
decreases-flows_at l = 4 * items_depth (items_view l.list.now) + 1
