-- Required parts that are empty: an id, an artifact name, a list of elements, the flows of a split, the items
-- of a group, the partitions of a partitioned step.
use Rattle.std.specs.Prelude.{ℕ, ◌||◌, Bool, false, Option, Some, None, List, nat_eq}
use Rattle.jsl_model.specs.declared.element.Task.{Task}
use Rattle.jsl_model.specs.declared.element.Task.TheVariants.{Batchlet, Chunk}
use Rattle.jsl_model.specs.declared.element.Step.{Step as StepRecord}
use Rattle.jsl_model.specs.declared.element.Element.{Element, Element-F, fold-Element}
use Rattle.jsl_model.specs.declared.element.SplitFlow.{SplitFlow, SplitFlow-F, fold-SplitFlow}
use Rattle.jsl_model.specs.declared.element.Body.{Body, Body-F, fold-Body}
use Rattle.jsl_model.specs.declared.element.Body.TheOpen.{Step, Flow, Split, Decision}
use Rattle.jsl_model.specs.Trees.{is_empty, any_true}

-- whether an optional name is given and empty
abbrev pub is_empty_option : Option (List ℕ) → Bool
is_empty_option None = false
is_empty_option (Some text) = is_empty text

-- whether a list is empty, or one of its entries has an empty part
abbrev pub is_lacking : List Bool → Bool
is_lacking tests = is_empty tests || any_true tests

-- whether a number of partitions is given and 0
abbrev pub has_no_partition : Option ℕ → Bool
has_no_partition None = false
has_no_partition (Some n) = nat_eq n 0

-- whether a task has an empty artifact name, or groups of 0 items
abbrev pub task_has_empty : Task → Bool
task_has_empty (Batchlet artifact) = is_empty artifact
task_has_empty (Chunk reader processor writer item_count) =
    is_empty reader || is_empty_option processor || is_empty writer || nat_eq item_count 0

-- whether a step is partitioned into 0 partitions, or its task has an empty part
abbrev pub step_has_empty : StepRecord → Bool
step_has_empty step = has_no_partition step.partitions || task_has_empty step.task

-- whether a body has an empty part, given whether each of its elements or flows has one
abbrev pub body_empty : Body-F Bool Bool Bool → Bool
body_empty (Step step) = step_has_empty step
body_empty (Flow elements) = is_lacking elements
body_empty (Split flows) = is_lacking flows
body_empty (Decision artifact) = is_empty artifact

-- whether an element has an empty part: its id is empty, or its body has one
abbrev pub element_empty : Element-F Bool Bool Bool → Bool
element_empty element = is_empty element.id || element.body

-- whether a flow of a split has an empty part: its id or its list is empty, or one of its elements has one
abbrev pub flow_empty : SplitFlow-F Bool Bool Bool → Bool
flow_empty flow = is_empty flow.id || is_lacking flow.elements

-- whether an element has, at any depth, a required part that is empty
abbrev pub element_has_empty : Element → Bool
element_has_empty = fold-Element Bool Bool Bool body_empty element_empty flow_empty

-- whether a body has, at any depth, a required part that is empty
abbrev pub body_has_empty : Body → Bool
body_has_empty = fold-Body Bool Bool Bool body_empty element_empty flow_empty

-- whether a flow of a split has, at any depth, a required part that is empty
abbrev pub flow_has_empty : SplitFlow → Bool
flow_has_empty = fold-SplitFlow Bool Bool Bool body_empty element_empty flow_empty
