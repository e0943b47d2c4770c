-- The texts of a job that have more than 256 bytes.
use Rattle.std.specs.Prelude.{ℕ, ◌||◌, Bool, false, Option, Some, None, List, length, map, nat_lt}
use Rattle.jsl_model.specs.declared.element.Then.{Then}
use Rattle.jsl_model.specs.declared.element.Then.TheVariants.{Next, End, Fail, Stop}
use Rattle.jsl_model.specs.declared.element.Transition.{Transition}
use Rattle.jsl_model.specs.declared.element.Task.{Task}
use Rattle.jsl_model.specs.declared.element.Task.TheVariants.{Batchlet, Chunk}
use Rattle.jsl_model.specs.declared.element.Element.{Element, Element-F, fold-Element}
use Rattle.jsl_model.specs.declared.element.SplitFlow.{SplitFlow, SplitFlow-F, fold-SplitFlow}
use Rattle.jsl_model.specs.declared.element.Body.{Body, Body-F, fold-Body}
use Rattle.jsl_model.specs.declared.element.Body.TheOpen.{Step, Flow, Split, Decision}
use Rattle.jsl_model.specs.Trees.{any_true}

-- whether a text has more than 256 bytes
abbrev pub is_long : List ℕ → Bool
is_long text = nat_lt 256 (length text)

-- whether an optional text is given and has more than 256 bytes
abbrev pub is_long_option : Option (List ℕ) → Bool
is_long_option None = false
is_long_option (Some text) = is_long text

-- whether the effect of a transition element has a text that is too long
abbrev pub then_has_long : Then → Bool
then_has_long (Next to) = is_long to
then_has_long (End exit_status) = is_long_option exit_status
then_has_long (Fail exit_status) = is_long_option exit_status
then_has_long (Stop exit_status restart) = is_long_option exit_status || is_long_option restart

-- whether a transition element has a text that is too long
abbrev pub transition_has_long : Transition → Bool
transition_has_long transition = is_long transition.on || then_has_long transition.then

-- whether a task has an artifact name that is too long
abbrev pub task_has_long : Task → Bool
task_has_long (Batchlet artifact) = is_long artifact
task_has_long (Chunk reader processor writer item_count) = is_long reader || is_long_option processor || is_long writer

-- whether a body has a text that is too long, given whether each of its elements or flows has one
abbrev pub body_long : Body-F Bool Bool Bool → Bool
body_long (Step step) = task_has_long step.task
body_long (Flow elements) = any_true elements
body_long (Split flows) = any_true flows
body_long (Decision artifact) = is_long artifact

-- whether an element has a text that is too long, given whether its body has one
abbrev pub element_long : Element-F Bool Bool Bool → Bool
element_long element = is_long element.id || is_long_option element.next || any_true (map transition_has_long element.transitions) || element.body

-- whether a flow of a split has a text that is too long, given whether each of its elements has one
abbrev pub flow_long : SplitFlow-F Bool Bool Bool → Bool
flow_long flow = is_long flow.id || any_true flow.elements

-- whether an element has, at any depth, a text of more than 256 bytes
abbrev pub element_has_long : Element → Bool
element_has_long = fold-Element Bool Bool Bool body_long element_long flow_long

-- whether a body has, at any depth, a text of more than 256 bytes
abbrev pub body_has_long : Body → Bool
body_has_long = fold-Body Bool Bool Bool body_long element_long flow_long

-- whether a flow of a split has, at any depth, a text of more than 256 bytes
abbrev pub flow_has_long : SplitFlow → Bool
flow_has_long = fold-SplitFlow Bool Bool Bool body_long element_long flow_long
