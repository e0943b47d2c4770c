use Rattle.std.proofs.Common.{◌≡◌, rules}
use Rattle.std.specs.Bool.{Decides}
use Rattle.jsl_model.specs.declared.element.SplitFlow.{out-SplitFlow}
use Rattle.catalogue_growth.proofs.Equals.{flow_by_elements}
use Rattle.catalogue_growth.proofs.sameness.+sameness.Goals as goal

pub is_same_flow-returns-then-eq : goal.is_same_flow-returns-then-eq
is_same_flow-returns-then-eq t c =
    let id : (out-SplitFlow c.args.flow.now).id ≡ (out-SplitFlow c.args.other.now).id = search rules in
    let elements : Decides c.are_same_elements.result ((out-SplitFlow c.args.flow.now).elements ≡ (out-SplitFlow c.args.other.now).elements) = search rules in
    flow_by_elements _ _ _ id elements
