-- How many elements have an id.
use Rattle.std.specs.Prelude.{ℕ, ◌+◌, Bool, true, false, List, [], ◌∷◌, map}
use Rattle.std.specs.Str.{bytes_eq}
use Rattle.jsl_model.specs.declared.element.Element.{Element, Element-F, fold-Element}
use Rattle.jsl_model.specs.declared.element.SplitFlow.{SplitFlow, SplitFlow-F, fold-SplitFlow}
use Rattle.jsl_model.specs.declared.element.Body.{Body, Body-F, fold-Body}
use Rattle.jsl_model.specs.declared.element.Body.TheOpen.{Step, Flow, Split, Decision}

abbrev pub total : List ℕ → ℕ
total [] = 0
total (n ∷ rest) = n + total rest

abbrev pub body_count : Body-F ℕ ℕ ℕ → ℕ
body_count (Step step) = 0
body_count (Decision artifact) = 0
body_count (Flow elements) = total elements
body_count (Split flows) = total flows

abbrev pub one_if : Bool → ℕ
one_if true = 1
one_if false = 0

abbrev pub element_count : List ℕ → Element-F ℕ ℕ ℕ → ℕ
element_count id x = one_if (bytes_eq x.id id) + x.body

abbrev pub flow_count : List ℕ → SplitFlow-F ℕ ℕ ℕ → ℕ
flow_count id x = one_if (bytes_eq x.id id) + total x.elements

abbrev pub count_in : List ℕ → Element → ℕ
count_in id = fold-Element ℕ ℕ ℕ body_count (element_count id) (flow_count id)

abbrev pub count_in_body : List ℕ → Body → ℕ
count_in_body id = fold-Body ℕ ℕ ℕ body_count (element_count id) (flow_count id)

abbrev pub count_in_flow : List ℕ → SplitFlow → ℕ
count_in_flow id = fold-SplitFlow ℕ ℕ ℕ body_count (element_count id) (flow_count id)

-- how many elements have an id, at all depths
abbrev pub count_of : List ℕ → List Element → ℕ
count_of id elements = total (map (count_in id) elements)
