-- The parts of a job, and the tree that is built from them.
use Rattle.std.specs.Prelude.{ℕ, Option, None, option_map, List, [], map, String, string_bytes}
use Rattle.std.specs.declared.alloc.Global.{Global}
use Rattle.jsl_model.specs.declared.parts.ThenParts.{ThenParts}
use Rattle.jsl_model.specs.declared.parts.ThenParts.TheVariants.{Next as NextParts, End as EndParts, Fail as FailParts, Stop as StopParts}
use Rattle.jsl_model.specs.declared.parts.TransitionParts.{TransitionParts}
use Rattle.jsl_model.specs.declared.parts.TaskParts.{TaskParts}
use Rattle.jsl_model.specs.declared.parts.TaskParts.TheVariants.{Batchlet as BatchletParts, Chunk as ChunkParts}
use Rattle.jsl_model.specs.declared.parts.StepParts.{StepParts}
use Rattle.jsl_model.specs.declared.parts.ElementParts.{ElementParts, ElementParts-F, fold-ElementParts}
use Rattle.jsl_model.specs.declared.parts.SplitFlowParts.{SplitFlowParts, SplitFlowParts-F, fold-SplitFlowParts}
use Rattle.jsl_model.specs.declared.parts.BodyParts.{BodyParts, BodyParts-F, fold-BodyParts}
use Rattle.jsl_model.specs.declared.parts.BodyParts.TheOpen.{Step as StepOf, Flow as FlowOf, Split as SplitOf, Decision as DecisionOf}
use Rattle.jsl_model.specs.declared.parts.JobParts.{JobParts}
use Rattle.jsl_model.specs.declared.element.Then.{Then}
use Rattle.jsl_model.specs.declared.element.Then.TheVariants.{Next, End, Fail, Stop}
use Rattle.jsl_model.specs.declared.element.Transition.{Transition}
use Rattle.jsl_model.specs.declared.element.Task.{Task}
use Rattle.jsl_model.specs.declared.element.Task.TheVariants.{Batchlet, Chunk}
use Rattle.jsl_model.specs.declared.element.Step.{Step as StepRecord}
use Rattle.jsl_model.specs.declared.element.Element.{Element}
use Rattle.jsl_model.specs.declared.element.SplitFlow.{SplitFlow, roll-SplitFlow}
use Rattle.jsl_model.specs.declared.element.Body.{Body}
use Rattle.jsl_model.specs.declared.element.Body.TheVariants.{Step, Flow, Split, Decision}
use Rattle.jsl_model.specs.Jobs.{JobTree}

-- the bytes of an optional text
abbrev pub bytes_of_option : Option (String Global) → Option (List ℕ)
bytes_of_option text = option_map string_bytes text

-- the effect of a transition element
abbrev pub then_of : ThenParts → Then
then_of (NextParts to) = Next (string_bytes to)
then_of (EndParts exit_status) = End (bytes_of_option exit_status)
then_of (FailParts exit_status) = Fail (bytes_of_option exit_status)
then_of (StopParts exit_status restart) = Stop (bytes_of_option exit_status) (bytes_of_option restart)

-- a transition element
abbrev pub transition_of : TransitionParts → Transition
transition_of parts = record { on = string_bytes parts.on; then = then_of parts.then }

-- the work of a step: a batchlet or a chunk
abbrev pub task_of : TaskParts → Task
task_of (BatchletParts artifact) = Batchlet (string_bytes artifact)
task_of (ChunkParts reader processor writer item_count) =
    Chunk (string_bytes reader) (bytes_of_option processor) (string_bytes writer) item_count

-- a step
abbrev pub step_of : StepParts → StepRecord
step_of parts =
    record {
      start_limit = parts.start_limit;
      allow_start_if_complete = parts.allow_start_if_complete;
      partitions = parts.partitions;
      task = task_of parts.task;
    }

-- the contents of an element besides its id
pub record Content : Type 0 where
  pub next : Option (List ℕ)
  pub transitions : List Transition
  pub body : Body

-- the contents from a body's parts, given its elements or flows: a split has no transition elements, and a
-- decision no `next`
abbrev pub body_tree : BodyParts-F Content Element SplitFlow → Content
body_tree (StepOf step) =
    record { next = bytes_of_option step.next; transitions = map transition_of step.transitions; body = Step (step_of step) }
body_tree (FlowOf next transitions elements) =
    record { next = bytes_of_option next; transitions = map transition_of transitions; body = Flow elements }
body_tree (SplitOf next flows) = record { next = bytes_of_option next; transitions = []; body = Split flows }
body_tree (DecisionOf transitions artifact) =
    record { next = None; transitions = map transition_of transitions; body = Decision (string_bytes artifact) }

-- an element, given its contents
abbrev pub element_tree : ElementParts-F Content Element SplitFlow → Element
element_tree parts =
    record { id = string_bytes parts.id; next = parts.body.next; transitions = parts.body.transitions; body = parts.body.body }

-- a flow of a split, given its elements
abbrev pub flow_tree : SplitFlowParts-F Content Element SplitFlow → SplitFlow
flow_tree parts = roll-SplitFlow record { id = string_bytes parts.id; elements = parts.elements }

-- the element that is built from its parts, each text as its bytes
abbrev pub element_of : ElementParts → Element
element_of = fold-ElementParts Content Element SplitFlow body_tree element_tree flow_tree

-- the contents of an element that are built from the parts of its body
abbrev pub content_of : BodyParts → Content
content_of = fold-BodyParts Content Element SplitFlow body_tree element_tree flow_tree

-- the flow of a split that is built from its parts
abbrev pub flow_of : SplitFlowParts → SplitFlow
flow_of = fold-SplitFlowParts Content Element SplitFlow body_tree element_tree flow_tree

-- the job that is built from its parts, each text as its bytes
abbrev pub tree_of : JobParts → JobTree
tree_of parts = record { id = string_bytes parts.id; restartable = parts.restartable; elements = map element_of parts.elements }
