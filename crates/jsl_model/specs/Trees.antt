-- The tree of a job's elements: its nodes at all depths, and its depth.
use Rattle.std.specs.Prelude.{ℕ, ◌+◌, Bool, true, false, Option, None, List, [], ◌∷◌, ◌++◌, map, nat_lt, if◌then◌else◌}
use Rattle.std.specs.List.{list_any, flat_map}
use Rattle.std.specs.Option.{option_to_list}
use Rattle.jsl_model.specs.declared.element.Task.{Task}
use Rattle.jsl_model.specs.declared.element.Task.TheVariants.{Batchlet, Chunk}
use Rattle.jsl_model.specs.declared.element.Transition.{Transition}
use Rattle.jsl_model.specs.declared.element.Element.{Element, Element-F, fold-Element}
use Rattle.jsl_model.specs.declared.element.SplitFlow.{SplitFlow, SplitFlow-F, fold-SplitFlow, roll-SplitFlow}
use Rattle.jsl_model.specs.declared.element.Body.{Body, Body-F, fold-Body}
use Rattle.jsl_model.specs.declared.element.Body.TheOpen.{Step, Flow, Split, Decision}
use Rattle.jsl_model.specs.declared.element.Body.TheVariants.{Step as StepBody, Flow as FlowBody, Split as SplitBody, Decision as DecisionBody}

-- the concatenation of lists
abbrev pub joined : {X : Type 0} → List (List X) → List X
joined [] = []
joined (part ∷ rest) = part ++ joined rest

-- whether one of these is true
abbrev pub any_true : List Bool → Bool
any_true tests = list_any (λ test. test) tests

-- whether a text or a list is empty
abbrev pub is_empty : {X : Type 0} → List X → Bool
is_empty [] = true
is_empty (first ∷ rest) = false

-- ---- All elements, with the flows of splits, in written order: each before its contents

-- an element or a flow of a split without its contents; a flow of a split has no transition elements
pub record Node : Type 0 where
  pub id : List ℕ
  pub transitions : List Transition
  -- the artifacts that it itself names, in written order
  pub artifacts : List (List ℕ)
  -- the number of partitions, if it is a partitioned step
  pub partitions : Option ℕ

-- a body: the artifacts that it itself names, its partitions, and all nodes inside it
pub record BodyNodes : Type 0 where
  pub artifacts : List (List ℕ)
  pub partitions : Option ℕ
  pub nodes : List Node

-- the artifacts of a batchlet or a chunk
abbrev pub task_artifacts : Task → List (List ℕ)
task_artifacts (Batchlet artifact) = artifact ∷ []
task_artifacts (Chunk reader processor writer item_count) = reader ∷ (option_to_list processor ++ writer ∷ [])

abbrev pub body_nodes : Body-F BodyNodes (List Node) (List Node) → BodyNodes
body_nodes (Step step) = record { artifacts = task_artifacts step.task; partitions = step.partitions; nodes = [] }
body_nodes (Flow elements) = record { artifacts = []; partitions = None; nodes = joined elements }
body_nodes (Split flows) = record { artifacts = []; partitions = None; nodes = joined flows }
body_nodes (Decision artifact) = record { artifacts = artifact ∷ []; partitions = None; nodes = [] }

abbrev pub element_nodes : Element-F BodyNodes (List Node) (List Node) → List Node
element_nodes element =
    record {
      id = element.id;
      transitions = element.transitions;
      artifacts = element.body.artifacts;
      partitions = element.body.partitions;
    } ∷ element.body.nodes

abbrev pub flow_nodes : SplitFlow-F BodyNodes (List Node) (List Node) → List Node
flow_nodes flow = record { id = flow.id; transitions = []; artifacts = []; partitions = None } ∷ joined flow.elements

-- an element, and then all nodes inside it
abbrev pub nodes_of : Element → List Node
nodes_of = fold-Element BodyNodes (List Node) (List Node) body_nodes element_nodes flow_nodes

-- the artifacts that a body itself names, its partitions, and all nodes inside it
abbrev pub in_body : Body → BodyNodes
in_body = fold-Body BodyNodes (List Node) (List Node) body_nodes element_nodes flow_nodes

-- a flow of a split, and then all nodes inside it
abbrev pub nodes_of_flow : SplitFlow → List Node
nodes_of_flow = fold-SplitFlow BodyNodes (List Node) (List Node) body_nodes element_nodes flow_nodes

-- all nodes of a list of elements, at all depths
abbrev pub nodes : List Element → List Node
nodes elements = joined (map nodes_of elements)

-- the artifacts that the elements of a list name at all depths, in written order
abbrev pub artifacts : List Element → List (List ℕ)
artifacts elements = joined (map (λ (m : Node). m.artifacts) (nodes elements))

-- ---- All elements, without the flows of splits, in written order: each before those inside it

-- an element, a body or a flow of a split, and all elements inside it
pub record Opened (X : Type 0) : Type 0 where
  pub whole : X
  pub inside : List Element

-- the opened elements, each before those inside it
abbrev pub opened_elements : List (Opened Element) → List Element
opened_elements elements = flat_map (λ (e : Opened Element). e.whole ∷ e.inside) elements

abbrev pub body_opened : Body-F (Opened Body) (Opened Element) (Opened SplitFlow) → Opened Body
body_opened (Step step) = record { whole = StepBody step; inside = [] }
body_opened (Flow elements) =
    record { whole = FlowBody (map (λ (e : Opened Element). e.whole) elements); inside = opened_elements elements }
body_opened (Split flows) =
    record { whole = SplitBody (map (λ (f : Opened SplitFlow). f.whole) flows); inside = flat_map (λ (f : Opened SplitFlow). f.inside) flows }
body_opened (Decision artifact) = record { whole = DecisionBody artifact; inside = [] }

abbrev pub element_opened : Element-F (Opened Body) (Opened Element) (Opened SplitFlow) → Opened Element
element_opened element = record {
  whole = record { id = element.id; next = element.next; transitions = element.transitions; body = element.body.whole };
  inside = element.body.inside;
}

abbrev pub flow_opened : SplitFlow-F (Opened Body) (Opened Element) (Opened SplitFlow) → Opened SplitFlow
flow_opened flow = record {
  whole = roll-SplitFlow record { id = flow.id; elements = map (λ (e : Opened Element). e.whole) flow.elements };
  inside = opened_elements flow.elements;
}

-- an element, and all elements inside it
abbrev pub open_element : Element → Opened Element
open_element = fold-Element (Opened Body) (Opened Element) (Opened SplitFlow) body_opened element_opened flow_opened

-- a body, and all elements inside it
abbrev pub open_body : Body → Opened Body
open_body = fold-Body (Opened Body) (Opened Element) (Opened SplitFlow) body_opened element_opened flow_opened

-- a flow of a split, and all elements inside it
abbrev pub open_flow : SplitFlow → Opened SplitFlow
open_flow = fold-SplitFlow (Opened Body) (Opened Element) (Opened SplitFlow) body_opened element_opened flow_opened

-- the elements inside a body
abbrev pub elements_in_body : Body → List Element
elements_in_body body = (open_body body).inside

-- the elements inside a flow of a split
abbrev pub elements_in_flow : SplitFlow → List Element
elements_in_flow flow = (open_flow flow).inside

-- all elements of a list, at all depths
abbrev pub all_elements : List Element → List Element
all_elements elements = flat_map (λ (e : Element). e ∷ elements_in_body e.body) elements

-- ---- Depth: the elements of a list are at level 1, the contents of a flow or a split one level deeper than it

-- the greatest of these numbers, or 0
abbrev pub greatest : List ℕ → ℕ
greatest [] = 0
greatest (n ∷ rest) = if nat_lt n (greatest rest) then greatest rest else n

abbrev pub body_depth : Body-F ℕ ℕ ℕ → ℕ
body_depth (Step step) = 0
body_depth (Flow elements) = greatest elements
body_depth (Split flows) = greatest flows
body_depth (Decision artifact) = 0

abbrev pub element_depth : Element-F ℕ ℕ ℕ → ℕ
element_depth element = 1 + element.body

abbrev pub flow_depth : SplitFlow-F ℕ ℕ ℕ → ℕ
flow_depth flow = 1 + greatest flow.elements

-- the number of levels of an element
abbrev pub depth_of : Element → ℕ
depth_of = fold-Element ℕ ℕ ℕ body_depth element_depth flow_depth

-- the number of levels of a body
abbrev pub depth_of_body : Body → ℕ
depth_of_body = fold-Body ℕ ℕ ℕ body_depth element_depth flow_depth

-- the number of levels of a flow of a split
abbrev pub depth_of_flow : SplitFlow → ℕ
depth_of_flow = fold-SplitFlow ℕ ℕ ℕ body_depth element_depth flow_depth

-- the level of the deepest element of a list
abbrev pub depth : List Element → ℕ
depth elements = greatest (map depth_of elements)
