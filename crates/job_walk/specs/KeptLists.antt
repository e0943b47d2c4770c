-- A cursor's stored lists, one for each list of its job, and the changes of them by a report.
use Rattle.std.specs.Prelude.{ℕ, zero, suc, ◌≡◌, ◌≢◌, ◌+◌, Bool, true, false, List, [], ◌∷◌, ◌++◌, length, map, slice_set}
use Rattle.jsl_model.specs.Trees.{joined}
use Rattle.jsl_model.specs.declared.element.Element.{Element, Element-F, fold-Element}
use Rattle.jsl_model.specs.declared.element.SplitFlow.{SplitFlow, SplitFlow-F, fold-SplitFlow}
use Rattle.jsl_model.specs.declared.element.Body.{Body, Body-F, fold-Body}
use Rattle.jsl_model.specs.declared.element.Body.TheOpen.{Step, Flow, Split, Decision}
use Rattle.walk_rules.specs.declared.facts.Fact.{Fact}
use Rattle.walk_rules.specs.declared.facts.Known.{Known}
use Rattle.walk_rules.specs.declared.facts.Value.{Value}
use Rattle.walk_rules.specs.declared.element_result.ElementResult.{ElementResult}
use Rattle.walk_rules.specs.declared.element_result.ElementResult.TheVariants.{ListValue, Outcome}
use Rattle.job_walk.specs.declared.kept_list.KeptList.{KeptList}
use Rattle.job_walk.specs.declared.kept_list.ListChange.{ListChange}
use Rattle.walk_rules.specs.declared.work_key.WorkKey.{WorkKey}
use Rattle.walk_rules.specs.Keys.{is_same_key}
use Rattle.job_plans.specs.Cursors.{CursorState, IsCursor, put_fact}
use Rattle.walk_rules.specs.Walk.{WalkedElement, BodyResult, IsStep, IsDecision, HasResult, fact_of, element_result, first_id, flow_result, split_result}
use Rattle.walk_rules.specs.Shown.{shows}
use Rattle.walk_rules.specs.Standing.{progress}
use Rattle.walk_rules.specs.Counts.{one_if}

-- ---- Stored lists

-- an element, with the stored lists inside it
pub record KeptElement : Type 0 where
  pub row : WalkedElement
  pub inside : List KeptList

-- a body, with the stored lists inside it
pub record KeptBody : Type 0 where
  pub part : BodyResult
  pub inside : List KeptList

-- a stored list, with the stored lists inside it
pub record KeptTree : Type 0 where
  pub head : KeptList
  pub inside : List KeptList

-- for each element, the number of lists before those inside it
abbrev pub starts_from : ℕ → List (List KeptList) → List ℕ
starts_from n [] = []
starts_from n (inside ∷ rest) = n ∷ starts_from (n + length inside) rest

abbrev pub rows_in : List KeptElement → List WalkedElement
rows_in all = map (λ (s : KeptElement). s.row) all

abbrev pub insides : List KeptElement → List (List KeptList)
insides all = map (λ (s : KeptElement). s.inside) all

abbrev pub head_of : List WalkedElement → List (List KeptList) → List ℕ → KeptList
head_of rows inner from =
    record {
      progress = progress (length rows) rows from;
      results = map (λ (row : WalkedElement). row.own_result) rows;
      starts = starts_from 0 inner;
      size = length (joined inner) + 1;
    }

abbrev pub tree_from : List KeptElement → List ℕ → KeptTree
tree_from all from = record { head = head_of (rows_in all) (insides all) from; inside = joined (insides all) }

abbrev pub tree_first : List KeptElement → KeptTree
tree_first all = tree_from all (first_id (rows_in all))

-- the list itself, and then those inside it
abbrev pub lists_in : KeptTree → List KeptList
lists_in w = w.head ∷ w.inside

abbrev pub value_kept : KeptTree → Value
value_kept w = w.head.progress.value

abbrev pub body_kept : Body-F KeptBody KeptElement KeptTree → KeptBody
body_kept (Step step) = record { part = IsStep step; inside = [] }
body_kept (Decision artifact) = record { part = IsDecision; inside = [] }
body_kept (Flow all) = record { part = HasResult (flow_result (value_kept (tree_first all))); inside = lists_in (tree_first all) }
body_kept (Split flows) = record { part = HasResult (split_result (map value_kept flows)); inside = joined (map lists_in flows) }

abbrev pub element_kept : (WorkKey → Fact) → Element-F KeptBody KeptElement KeptTree → KeptElement
element_kept facts x =
    record {
      row = record { id = x.id; next = x.next; transitions = x.transitions; own_result = element_result facts x.id x.body.part };
      inside = x.body.inside;
    }

abbrev pub flow_kept : SplitFlow-F KeptBody KeptElement KeptTree → KeptTree
flow_kept x = tree_first x.elements

abbrev pub kept_element : (WorkKey → Fact) → Element → KeptElement
kept_element facts = fold-Element KeptBody KeptElement KeptTree body_kept (element_kept facts) flow_kept

abbrev pub kept_body : (WorkKey → Fact) → Body → KeptBody
kept_body facts = fold-Body KeptBody KeptElement KeptTree body_kept (element_kept facts) flow_kept

abbrev pub kept_flow : (WorkKey → Fact) → SplitFlow → KeptTree
kept_flow facts = fold-SplitFlow KeptBody KeptElement KeptTree body_kept (element_kept facts) flow_kept

-- the stored list of elements whose walk begins at one of them, with those inside it
abbrev pub tree_of : (WorkKey → Fact) → List Element → List ℕ → KeptTree
tree_of facts elements from = tree_from (map (kept_element facts) elements) from

-- the stored list of these elements, and then those inside it
abbrev pub kept_of : (WorkKey → Fact) → List Element → List ℕ → List KeptList
kept_of facts elements from = lists_in (tree_of facts elements from)

-- ---- The changes by a report

-- whether an element's own result shows the work key
abbrev pub result_shows : WorkKey → ElementResult → Bool
result_shows key (ListValue value) = shows key value
result_shows key (Outcome outcome exit) = false

-- whether the value of the first of these lists shows the work key
abbrev pub first_shows : WorkKey → List KeptList → Bool
first_shows key [] = false
first_shows key (kept ∷ rest) = shows key kept.progress.value

-- a stored list with one element's own result changed, and with it the walk's progress
abbrev pub put_in : ListChange → KeptList → KeptList
put_in change kept = record kept { progress = change.progress; results = slice_set kept.results change.place change.result }

abbrev pub put_at : ℕ → ListChange → List KeptList → List KeptList
put_at n change [] = []
put_at zero change (kept ∷ rest) = put_in change kept ∷ rest
put_at (suc n) change (kept ∷ rest) = kept ∷ put_at n change rest

-- the lists with these changes, the last change first
abbrev pub put_all : List ListChange → List KeptList → List KeptList
put_all [] lists = lists
put_all (change ∷ rest) lists = put_at change.list change (put_all rest lists)

-- these changes, put before those others, make the old lists the new ones, if the lists begin at this number
abbrev pub Puts : List ListChange → List ListChange → ℕ → List KeptList → List KeptList → Type 0
Puts others changes base old new =
    (before after : List KeptList) → length before ≡ base
    → put_all changes ((before ++ old) ++ after) ≡ put_all others ((before ++ new) ++ after)

-- the lists begin with the stored list of these elements, whose walk begins at some element, and those inside
-- it
abbrev pub Keeps : (WorkKey → Fact) → List Element → List KeptList → Type 0
Keeps facts elements lists = (from : List ℕ) × (rest : List KeptList) × (lists ≡ kept_of facts elements from ++ rest)

-- the lists begin with the stored list of these elements, whose walk begins at the first element, and those
-- inside it
abbrev pub KeepsFirst : (WorkKey → Fact) → List Element → List KeptList → Type 0
KeepsFirst facts elements lists = (rest : List KeptList) × (lists ≡ lists_in (tree_first (map (kept_element facts) elements)) ++ rest)

-- the lists begin with the stored lists inside an element
abbrev pub KeepsInside : (WorkKey → Fact) → Element → List KeptList → Type 0
KeepsInside facts element lists = (rest : List KeptList) × (lists ≡ (kept_element facts element).inside ++ rest)

-- the lists begin with the stored lists of a split's flows, one flow after another
abbrev pub KeepsFlows : (WorkKey → Fact) → List SplitFlow → List KeptList → Type 0
KeepsFlows facts flows lists =
    (rest : List KeptList) × (lists ≡ joined (map (λ (f : SplitFlow). lists_in (kept_flow facts f)) flows) ++ rest)

-- the lists begin with the stored lists of a split's flows, and the split's own result shows a work key
abbrev pub ShowsInFlow : WorkKey → List SplitFlow → List KeptList → Type 0
ShowsInFlow key flows lists =
    (facts : WorkKey → Fact) × KeepsFlows facts flows lists
    × (result_shows key (split_result (map (λ (f : SplitFlow). value_kept (kept_flow facts f)) flows)) ≡ true)

-- the facts after a new one of a work key
abbrev pub facts_after : List Known → WorkKey → Fact → WorkKey → Fact
facts_after known key fact = fact_of (put_fact known key fact)

-- if the lists begin with the stored list of these elements, the changes make it the stored list by the later
-- facts
abbrev pub ChangesList : List ListChange → List ListChange → ℕ → List KeptList → (WorkKey → Fact) → (WorkKey → Fact) → List Element → Type 0
ChangesList others changes base lists facts later elements =
    (from : List ℕ) (rest : List KeptList) → lists ≡ kept_of facts elements from ++ rest
    → Puts others changes base (kept_of facts elements from) (kept_of later elements from)

-- if the lists begin with the stored list of these elements, this is the list's value by the later facts
abbrev pub ComesTo : Value → List KeptList → (WorkKey → Fact) → (WorkKey → Fact) → List Element → Type 0
ComesTo value lists facts later elements =
    (from : List ℕ) (rest : List KeptList) → lists ≡ kept_of facts elements from ++ rest → value ≡ value_kept (tree_of later elements from)

-- facts that differ only at the work keys of one id
abbrev pub DifferAt : List ℕ → (WorkKey → Fact) → (WorkKey → Fact) → Type 0
DifferAt id facts later = (key : WorkKey) → key.element ≢ id → later key ≡ facts key

-- a walk with these stored lists
pub record IsCursorWith (lists : List KeptList) (cursor : CursorState) : Type 0 where
  pub same : lists ≡ kept_of (fact_of cursor.facts) cursor.job.elements cursor.from
  pub state : IsCursor cursor
