-- The lists of a job, as a walk goes over them, and the facts of their steps and decisions.
use Rattle.std.specs.Prelude.{◌≡◌, ℕ, ◌+◌, Bool, false, List, [], ◌∷◌, All, Contains}
use Rattle.std.specs.List.{list_any}
use Rattle.std.specs.Str.{bytes_eq}
use Rattle.jsl_model.specs.declared.element.Element.{Element}
use Rattle.jsl_model.specs.declared.element.SplitFlow.{SplitFlow, out-SplitFlow}
use Rattle.jsl_model.specs.declared.element.Body.TheVariants.{Flow, Split}
use Rattle.jsl_model.specs.Targets.{Item, lacks_target, HasRanks}
use Rattle.walk_rules.specs.declared.facts.Fact.{Fact}
use Rattle.walk_rules.specs.declared.facts.Value.{Value}
use Rattle.walk_rules.specs.declared.work_key.WorkKey.{WorkKey}
use Rattle.job_plans.specs.Runnables.{Leaf, all_keys}
use Rattle.walk_rules.specs.Counts.{one_if}
use Rattle.walk_rules.specs.Keys.{is_same_key}
use Rattle.walk_rules.specs.Walk.{walked_element, value_by_result, value_of}

-- ---- Lists

-- whether this is the id of an element of the list
abbrev pub has_element : List Element → List ℕ → Bool
has_element elements id = list_any (λ element. bytes_eq element.id id) elements

-- each list of a checked job has the targets of its `next` and `to`, and numbers below its length rise from
-- each element to its targets
pub record IsOrdered (items : List Item) : Type 0 where
  pub complete : lacks_target items ≡ false
  pub ranked : HasRanks items

-- a list lies in another: it is that list itself, or it lies in the list of a flow there, or of a flow of a
-- split
pub data StandsIn (list : List Element) : List Element → Type 0 where
  Itself : StandsIn list list
  InFlow : (elements inner : List Element) (element : Element) → Contains elements element → element.body ≡ Flow inner
      → StandsIn list inner → StandsIn list elements
  InSplit : (elements : List Element) (element : Element) (flows : List SplitFlow) (flow : SplitFlow) → Contains elements element
      → element.body ≡ Split flows → Contains flows flow → StandsIn list (out-SplitFlow flow).elements → StandsIn list elements

-- a list's value from an element: its own result, and then the list's value from the element to which that
-- leads
abbrev pub value_from : (WorkKey → Fact) → List Element → Element → Value
value_from facts elements element =
    value_by_result (value_of facts elements) (walked_element facts element) (walked_element facts element).own_result

-- ---- Steps and decisions

-- facts that are equal at each work key of these steps and decisions
abbrev pub Agree : (WorkKey → Fact) → (WorkKey → Fact) → List Leaf → Type 0
Agree facts later leaves = All (λ key. facts key ≡ later key) (all_keys leaves)

-- how often a list has a work key
abbrev pub key_count : WorkKey → List WorkKey → ℕ
key_count key [] = 0
key_count key (one ∷ rest) = one_if (is_same_key key one) + key_count key rest
