-- Two flows of splits are equal if their ids and their elements are.
use Rattle.std.proofs.Common.{◌≡◌, ◌∙◌, sym, ap, Bool}
use Rattle.std.specs.Bool.{Decides}
use Rattle.jsl_model.specs.declared.element.SplitFlow.{SplitFlow, out-SplitFlow, roll-SplitFlow, roll-out-SplitFlow}

flow_same : (flow other : SplitFlow) → (out-SplitFlow flow).id ≡ (out-SplitFlow other).id
    → (out-SplitFlow flow).elements ≡ (out-SplitFlow other).elements → flow ≡ other
flow_same flow other id elements =
    let opened : out-SplitFlow flow ≡ out-SplitFlow other = λ i. record { id = id i; elements = elements i } in
    sym (roll-out-SplitFlow flow) ∙ ap roll-SplitFlow opened ∙ roll-out-SplitFlow other

-- flows of one id are equal exactly if their elements are
pub flow_by_elements : (flow other : SplitFlow) (test : Bool) → (out-SplitFlow flow).id ≡ (out-SplitFlow other).id
    → Decides test ((out-SplitFlow flow).elements ≡ (out-SplitFlow other).elements) → Decides test (flow ≡ other)
flow_by_elements flow other test id elements =
    (λ holds. flow_same flow other id (elements.0 holds), λ same. elements.1 (ap (λ (f : SplitFlow). (out-SplitFlow f).elements) same))
