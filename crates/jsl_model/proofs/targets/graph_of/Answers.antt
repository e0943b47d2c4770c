use Rattle.std.proofs.Common.{◌++◌, ◌∙◌, bytes_eq, sym, subst, ap}
use Rattle.std.specs.HashMap as hash
use Rattle.target_graph.specs.Graph.{IsGraph}
use Rattle.jsl_model.specs.Targets.{item_of, outline}
use Rattle.jsl_model.proofs.Among.{texts}
use Rattle.jsl_model.proofs.Places.{graph-more, graph-all, graph-vertices}
use Rattle.jsl_model.proofs.targets.graph_of.Goals as goal

pub loop-element-preserved : goal.loop-element-preserved
loop-element-preserved c =
    graph-more c.args.elements.now c.loop-element.element-index c.element-item.result (λ q. hash.get_by (λ key. bytes_eq q key.now) c.in_ok-places.places)
    c.deref.result.now c.loop-element.graph.items c.push.new.self.items c.in_ok-places_in.field-0
    c.loop-element-test.true c.element-item.is c.in_ok-places.ensures
    (ap texts c.deref.ensures.value ∙ (c.in_ok-add_targets.ensures ∙ ap (λ names. texts names ++ (item_of c.element-item.result).targets) c.new-targets.ensures.items))
    c.in_ok-places_in.ensures c.in_ok-push.ensures.items c.loop-element.invariant

pub new-requires : goal.new-requires
new-requires c =
    subst IsGraph (sym (graph-all c.args.elements.now c.loop-element.element-index _ c.loop-element-test.false c.loop-element.invariant))
    (graph-vertices (outline c.args.elements.now))
