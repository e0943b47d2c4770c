-- The steps of a job, at any depth, in written order.
use Rattle.std.specs.Prelude.{ℕ, List, [], ◌∷◌, map}
use Rattle.jsl_model.specs.Trees.{joined}
use Rattle.jsl_model.specs.declared.element.Step.{Step as StepRecord}
use Rattle.jsl_model.specs.declared.element.Element.{Element, Element-F, fold-Element}
use Rattle.jsl_model.specs.declared.element.SplitFlow.{SplitFlow, SplitFlow-F, fold-SplitFlow}
use Rattle.jsl_model.specs.declared.element.Body.{Body, Body-F, fold-Body}
use Rattle.jsl_model.specs.declared.element.Body.TheOpen.{Step, Flow, Split, Decision}

-- a step with its id
pub record JobStep : Type 0 where
  pub id : List ℕ
  pub step : StepRecord

-- the steps of a body: it is a step itself, or it holds steps
pub data StepsInside : Type 0 where
  IsStep : StepRecord → StepsInside
  HoldsSteps : List JobStep → StepsInside

abbrev pub body_steps : Body-F StepsInside (List JobStep) (List JobStep) → StepsInside
body_steps (Step step) = IsStep step
body_steps (Decision artifact) = HoldsSteps []
body_steps (Flow elements) = HoldsSteps (joined elements)
body_steps (Split flows) = HoldsSteps (joined flows)

abbrev pub steps_at : List ℕ → StepsInside → List JobStep
steps_at id (IsStep step) = record { id = id; step = step } ∷ []
steps_at id (HoldsSteps inside) = inside

abbrev pub element_steps : Element-F StepsInside (List JobStep) (List JobStep) → List JobStep
element_steps x = steps_at x.id x.body

abbrev pub flow_steps : SplitFlow-F StepsInside (List JobStep) (List JobStep) → List JobStep
flow_steps x = joined x.elements

-- the steps of an element, in written order
abbrev pub steps_of_element : Element → List JobStep
steps_of_element = fold-Element StepsInside (List JobStep) (List JobStep) body_steps element_steps flow_steps

-- the steps of a flow of a split
abbrev pub steps_of_flow : SplitFlow → List JobStep
steps_of_flow = fold-SplitFlow StepsInside (List JobStep) (List JobStep) body_steps element_steps flow_steps

-- the steps of a body
abbrev pub steps_in_body : Body → StepsInside
steps_in_body = fold-Body StepsInside (List JobStep) (List JobStep) body_steps element_steps flow_steps

-- the steps of a list of elements
abbrev pub all_steps : List Element → List JobStep
all_steps elements = joined (map steps_of_element elements)
