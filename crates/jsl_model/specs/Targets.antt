-- The lists of elements of a job, the ids that the elements of a list name, and the graph of these targets.
use Rattle.std.specs.Prelude.{ℕ, ◌++◌, Bool, not, Option, Some, None, List, [], ◌∷◌, map, bytes_eq}
use Rattle.std.specs.List.{filter_map, flat_map, list_any, position}
use Rattle.std.specs.Option.{option_to_list}
use Rattle.target_graph.specs.Graph.{IsRanked, has_cycle}
use Rattle.jsl_model.specs.declared.element.Then.{Then}
use Rattle.jsl_model.specs.declared.element.Then.TheVariants.{Next, End, Fail, Stop}
use Rattle.jsl_model.specs.declared.element.Transition.{Transition}
use Rattle.jsl_model.specs.declared.element.Element.{Element, Element-F, fold-Element}
use Rattle.jsl_model.specs.declared.element.SplitFlow.{SplitFlow, SplitFlow-F, fold-SplitFlow}
use Rattle.jsl_model.specs.declared.element.Body.{Body, Body-F, fold-Body}
use Rattle.jsl_model.specs.declared.element.Body.TheOpen.{Step, Flow, Split, Decision}
use Rattle.jsl_model.specs.Names.{are_among}

-- ---- The ids that an element names

-- an element's id and the ids that it names by `next` and `to`, in written order
pub record Item : Type 0 where
  pub id : List ℕ
  pub targets : List (List ℕ)

-- the id of the element that a transition element leads to, if it leads to one
abbrev pub named_by : Then → Option (List ℕ)
named_by (Next to) = Some to
named_by (End exit_status) = None
named_by (Fail exit_status) = None
named_by (Stop exit_status restart) = None

-- the ids that a `next` and transition elements name
abbrev pub named_in : Option (List ℕ) → List Transition → List (List ℕ)
named_in next transitions = option_to_list next ++ filter_map (λ transition. named_by transition.then) transitions

-- an element's item
abbrev pub item_of : Element → Item
item_of element = record { id = element.id; targets = named_in element.next element.transitions }

-- the items of a list of elements
abbrev pub outline : List Element → List Item
outline elements = map item_of elements

-- ---- The lists of a job

-- an element's item, and the items of the lists inside the element
pub record ItemLists : Type 0 where
  pub item : Item
  pub inside : List (List Item)

-- the list of these elements, and then the lists inside them
abbrev pub lists_of_items : List ItemLists → List (List Item)
lists_of_items elements = map (λ element. element.item) elements ∷ flat_map (λ element. element.inside) elements

-- the lists inside a body, given those of its elements or flows
abbrev pub body_lists : Body-F (List (List Item)) ItemLists (List (List Item)) → List (List Item)
body_lists (Step step) = []
body_lists (Flow elements) = lists_of_items elements
body_lists (Split flows) = flat_map (λ lists. lists) flows
body_lists (Decision artifact) = []

-- an element's item and the lists inside it, given the lists inside its body
abbrev pub element_lists : Element-F (List (List Item)) ItemLists (List (List Item)) → ItemLists
element_lists element = record { item = record { id = element.id; targets = named_in element.next element.transitions }; inside = element.body }

-- the lists of a flow of a split, given those of its elements
abbrev pub flow_lists : SplitFlow-F (List (List Item)) ItemLists (List (List Item)) → List (List Item)
flow_lists flow = lists_of_items flow.elements

-- an element's item and the lists inside it
abbrev pub item_lists_of : Element → ItemLists
item_lists_of = fold-Element (List (List Item)) ItemLists (List (List Item)) body_lists element_lists flow_lists

-- the lists inside an element, in written order
abbrev pub lists_inside : Element → List (List Item)
lists_inside element = (item_lists_of element).inside

-- the lists of a flow of a split
abbrev pub lists_of_flow : SplitFlow → List (List Item)
lists_of_flow = fold-SplitFlow (List (List Item)) ItemLists (List (List Item)) body_lists element_lists flow_lists

-- the lists inside a body
abbrev pub lists_in_body : Body → List (List Item)
lists_in_body = fold-Body (List (List Item)) ItemLists (List (List Item)) body_lists element_lists flow_lists

-- all lists of a job: a list, and then those inside its elements, in written order
abbrev pub lists_of : List Element → List (List Item)
lists_of elements = outline elements ∷ flat_map lists_inside elements

-- ---- Targets that don't exist

-- the ids of a list
abbrev pub ids : List Item → List (List ℕ)
ids items = map (λ item. item.id) items

-- all ids that the elements of a list name
abbrev pub targets_in : List Item → List (List ℕ)
targets_in items = flat_map (λ item. item.targets) items

-- whether an element names an id that no element of the list has
abbrev pub lacks_target : List Item → Bool
lacks_target items = not (are_among (ids items) (targets_in items))

-- whether an element of a job names an id that no element of its list has
abbrev pub lacks_some_target : List Element → Bool
lacks_some_target elements = list_any lacks_target (lists_of elements)

-- ---- Loops

-- the index of the first item with this id
abbrev pub place_in : List (List ℕ) → List ℕ → Option ℕ
place_in ids id = position (λ held. bytes_eq held id) ids

-- the graph of a list: for each element the indices of its targets; targets that don't exist are left out
abbrev pub graph_of : List Item → List (List ℕ)
graph_of items = map (λ item. filter_map (place_in (ids items)) item.targets) items

-- whether the targets of a list form a cycle
abbrev pub has_loop : List Item → Bool
has_loop items = has_cycle (graph_of items)

-- ranks of the elements of a list, which rise from each element to its targets
abbrev pub HasRanks : List Item → Type 0
HasRanks items = (ranks : List ℕ) × IsRanked ranks (graph_of items)

-- whether the targets of a list of a job form a cycle
abbrev pub has_some_loop : List Element → Bool
has_some_loop elements = list_any has_loop (lists_of elements)
