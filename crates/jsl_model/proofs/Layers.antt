-- What parts give and whether a text of it is too long, one layer at a time.
use Rattle.std.proofs.Common.{◌≡◌, ◌||◌, Bool, List, [], ℕ, Option, None, map, String, string_bytes, sym, ◌∙◌, ap}
use Rattle.std.specs.declared.alloc.Global.{Global}
use Rattle.jsl_model.specs.declared.parts.StepParts.{StepParts}
use Rattle.jsl_model.specs.declared.parts.TransitionParts.{TransitionParts}
use Rattle.jsl_model.specs.declared.parts.ElementParts.{ElementParts, fold_out-ElementParts}
use Rattle.jsl_model.specs.declared.parts.SplitFlowParts.{SplitFlowParts, out-SplitFlowParts, fold_out-SplitFlowParts}
use Rattle.jsl_model.specs.declared.parts.BodyParts.{fold-roll-BodyParts}
use Rattle.jsl_model.specs.declared.parts.BodyParts.TheVariants.{Step as StepOf, Flow as FlowOf, Split as SplitOf, Decision as DecisionOf, rolls-Step as rolls-StepOf, rolls-Flow as rolls-FlowOf, rolls-Split as rolls-SplitOf, rolls-Decision as rolls-DecisionOf}
use Rattle.jsl_model.specs.declared.parts.BodyParts.TheOpen.{Step as OpenStepOf, Flow as OpenFlowOf, Split as OpenSplitOf, Decision as OpenDecisionOf}
use Rattle.jsl_model.specs.declared.element.Step.{Step as StepBody}
use Rattle.jsl_model.specs.declared.element.Element.{Element, fold_out-Element}
use Rattle.jsl_model.specs.declared.element.SplitFlow.{SplitFlow, fold-roll-SplitFlow}
use Rattle.jsl_model.specs.declared.element.Body.{fold-roll-Body}
use Rattle.jsl_model.specs.declared.element.Body.TheVariants.{Step, Flow, Split, Decision, rolls-Step, rolls-Flow, rolls-Split, rolls-Decision}
use Rattle.jsl_model.specs.declared.element.Body.TheOpen.{Step as OpenStep, Flow as OpenFlow, Split as OpenSplit, Decision as OpenDecision}
use Rattle.jsl_model.specs.Trees.{any_true}
use Rattle.jsl_model.specs.LongTexts.{is_long, is_long_option, transition_has_long, task_has_long, body_long, element_long, flow_long, body_has_long, element_has_long, flow_has_long}
use Rattle.jsl_model.specs.Parts.{step_of, task_of, transition_of, bytes_of_option, Content, body_tree, element_tree, flow_tree, content_of, element_of, flow_of}

step_has : (step : StepBody) → body_has_long (Step step) ≡ task_has_long step.task
step_has step = ap body_has_long (sym (rolls-Step step)) ∙ fold-roll-Body Bool Bool Bool body_long element_long flow_long (OpenStep step)

flow_has : (elements : List Element) → body_has_long (Flow elements) ≡ any_true (map element_has_long elements)
flow_has elements = ap body_has_long (sym (rolls-Flow elements)) ∙ fold-roll-Body Bool Bool Bool body_long element_long flow_long (OpenFlow elements)

split_has : (flows : List SplitFlow) → body_has_long (Split flows) ≡ any_true (map flow_has_long flows)
split_has flows = ap body_has_long (sym (rolls-Split flows)) ∙ fold-roll-Body Bool Bool Bool body_long element_long flow_long (OpenSplit flows)

decision_has : (artifact : List ℕ) → body_has_long (Decision artifact) ≡ is_long artifact
decision_has artifact = ap body_has_long (sym (rolls-Decision artifact)) ∙ fold-roll-Body Bool Bool Bool body_long element_long flow_long (OpenDecision artifact)

-- what a step's parts give
pub step_given : (step : StepParts) → content_of (StepOf step) ≡ record { next = bytes_of_option step.next; transitions = map transition_of step.transitions; body = Step (step_of step) }
step_given step = ap content_of (sym (rolls-StepOf step)) ∙ fold-roll-BodyParts Content Element SplitFlow body_tree element_tree flow_tree (OpenStepOf step)

-- what a flow's parts give
pub flow_given : (next : Option (String Global)) (transitions : List TransitionParts) (elements : List ElementParts)
    → content_of (FlowOf next transitions elements) ≡ record { next = bytes_of_option next; transitions = map transition_of transitions; body = Flow (map element_of elements) }
flow_given next transitions elements =
    ap content_of (sym (rolls-FlowOf next transitions elements))
    ∙ fold-roll-BodyParts Content Element SplitFlow body_tree element_tree flow_tree (OpenFlowOf next transitions elements)

-- what a split's parts give
pub split_given : (next : Option (String Global)) (flows : List SplitFlowParts)
    → content_of (SplitOf next flows) ≡ record { next = bytes_of_option next; transitions = []; body = Split (map flow_of flows) }
split_given next flows =
    ap content_of (sym (rolls-SplitOf next flows))
    ∙ fold-roll-BodyParts Content Element SplitFlow body_tree element_tree flow_tree (OpenSplitOf next flows)

-- what a decision's parts give
pub decision_given : (transitions : List TransitionParts) (artifact : String Global)
    → content_of (DecisionOf transitions artifact) ≡ record { next = None; transitions = map transition_of transitions; body = Decision (string_bytes artifact) }
decision_given transitions artifact =
    ap content_of (sym (rolls-DecisionOf transitions artifact))
    ∙ fold-roll-BodyParts Content Element SplitFlow body_tree element_tree flow_tree (OpenDecisionOf transitions artifact)

-- a step has a text that is too long in its body if its task has
pub step_long : (step : StepParts) → body_has_long (content_of (StepOf step)).body ≡ task_has_long (task_of step.task)
step_long step = ap (λ (c : Content). body_has_long c.body) (step_given step) ∙ step_has (step_of step)

-- a flow has a text that is too long in its body if an element of it has
pub flow_body_long : (next : Option (String Global)) (transitions : List TransitionParts) (elements : List ElementParts)
    → body_has_long (content_of (FlowOf next transitions elements)).body ≡ any_true (map element_has_long (map element_of elements))
flow_body_long next transitions elements = ap (λ (c : Content). body_has_long c.body) (flow_given next transitions elements) ∙ flow_has (map element_of elements)

-- a split has a text that is too long in its body if a flow of it has
pub split_long : (next : Option (String Global)) (flows : List SplitFlowParts)
    → body_has_long (content_of (SplitOf next flows)).body ≡ any_true (map flow_has_long (map flow_of flows))
split_long next flows = ap (λ (c : Content). body_has_long c.body) (split_given next flows) ∙ split_has (map flow_of flows)

-- a decision has a text that is too long in its body if its artifact's name is
pub decision_long : (transitions : List TransitionParts) (artifact : String Global)
    → body_has_long (content_of (DecisionOf transitions artifact)).body ≡ is_long (string_bytes artifact)
decision_long transitions artifact = ap (λ (c : Content). body_has_long c.body) (decision_given transitions artifact) ∙ decision_has (string_bytes artifact)

-- an element has its id, and what its body's parts give
pub element_given : (parts : ElementParts) → element_of parts
    ≡ record { id = string_bytes parts.id; next = (content_of parts.body).next; transitions = (content_of parts.body).transitions; body = (content_of parts.body).body }
element_given parts = fold_out-ElementParts Content Element SplitFlow body_tree element_tree flow_tree parts

-- an element has a text that is too long if one of its own is, or its body has one
pub element_long_of : (parts : ElementParts) → element_has_long (element_of parts)
    ≡ (is_long (string_bytes parts.id) || is_long_option (content_of parts.body).next || any_true (map transition_has_long (content_of parts.body).transitions) || body_has_long (content_of parts.body).body)
element_long_of parts =
    ap element_has_long (element_given parts)
    ∙ fold_out-Element Bool Bool Bool body_long element_long flow_long
    record { id = string_bytes parts.id; next = (content_of parts.body).next; transitions = (content_of parts.body).transitions; body = (content_of parts.body).body }

-- a flow of a split has a text that is too long if its id is, or an element of it has one
pub flow_long_of : (parts : SplitFlowParts) → flow_has_long (flow_of parts) ≡ (is_long (string_bytes (out-SplitFlowParts parts).id) || any_true (map element_has_long (map element_of (out-SplitFlowParts parts).elements)))
flow_long_of parts =
    ap flow_has_long (fold_out-SplitFlowParts Content Element SplitFlow body_tree element_tree flow_tree parts)
    ∙ fold-roll-SplitFlow Bool Bool Bool body_long element_long flow_long
    record { id = string_bytes (out-SplitFlowParts parts).id; elements = map element_of (out-SplitFlowParts parts).elements }
