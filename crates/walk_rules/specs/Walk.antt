-- The walk of a job: the values of its lists, from the facts about each step and decision.
use Rattle.std.specs.Prelude.{ℕ, zero, suc, Bool, true, false, Option, Some, None, unwrap_or, List, [], ◌∷◌, ◌++◌, length, map, find, ◌||◌, if◌then◌else◌}
use Rattle.std.specs.List.{list_any, filter}
use Rattle.std.specs.Str.{bytes_eq}
use Rattle.batch_ids.specs.Statuses.{status_name, outcome_name}
use Rattle.batch_ids.specs.declared.status.BatchStatus.{BatchStatus}
use Rattle.batch_ids.specs.declared.status.BatchStatus.TheVariants.{Completed, Failed, Stopped}
use Rattle.batch_ids.specs.declared.status.WorkOutcome.{WorkOutcome}
use Rattle.batch_ids.specs.declared.status.WorkOutcome.TheVariants.{Completed as CameCompleted, Failed as CameFailed, Stopped as CameStopped}
use Rattle.jsl_model.specs.declared.element.Then.{Then}
use Rattle.jsl_model.specs.declared.element.Then.TheVariants.{Next, End, Fail, Stop}
use Rattle.jsl_model.specs.declared.element.Transition.{Transition}
use Rattle.jsl_model.specs.declared.element.Step.{Step as StepRecord}
use Rattle.jsl_model.specs.declared.element.Element.{Element, Element-F, fold-Element}
use Rattle.jsl_model.specs.declared.element.SplitFlow.{SplitFlow, SplitFlow-F, fold-SplitFlow}
use Rattle.jsl_model.specs.declared.element.Body.{Body, Body-F, fold-Body}
use Rattle.jsl_model.specs.declared.element.Body.TheOpen.{Step, Flow, Split, Decision}
use Rattle.transitions.specs.Transitions.{matching_transition}
use Rattle.walk_rules.specs.Keys.{key_of, keys_of_step, is_same_key}
use Rattle.walk_rules.specs.declared.work_key.WorkKey.{WorkKey}
use Rattle.walk_rules.specs.declared.facts.Fact.{Fact}
use Rattle.walk_rules.specs.declared.facts.Fact.TheVariants.{Nothing, Carried, Busy, Over, Barred}
use Rattle.walk_rules.specs.declared.facts.Known.{Known}
use Rattle.walk_rules.specs.declared.continuation.Continuation.{Continuation}
use Rattle.walk_rules.specs.declared.continuation.Continuation.TheVariants.{AtElement, WithValue}
use Rattle.walk_rules.specs.declared.facts.Value.{Value}
use Rattle.walk_rules.specs.declared.facts.Value.TheVariants.{Open, Done, Ended}
use Rattle.walk_rules.specs.declared.element_result.ElementResult.{ElementResult}
use Rattle.walk_rules.specs.declared.element_result.ElementResult.TheVariants.{ListValue, Outcome}

-- ---- Facts

-- the fact about a work key, from the first entry that names it; without one, it is `Nothing`
abbrev pub fact_of : List Known → WorkKey → Fact
fact_of [] key = Nothing
fact_of (known ∷ rest) key = if is_same_key known.key key then known.fact else fact_of rest key

-- each of these work keys, with the fact about it
abbrev pub known_of : (WorkKey → Fact) → List WorkKey → List Known
known_of facts keys = map (λ key. record { key = key; fact = facts key }) keys

-- ---- Decisions, and steps that are not partitioned

-- the result of a step or decision that may be run now
abbrev pub ready_result : WorkKey → ElementResult
ready_result key = ListValue (Open (key ∷ []) [])

-- the result of a step or decision that is being run
abbrev pub busy_result : WorkKey → ElementResult
busy_result key = ListValue (Open [] (key ∷ []))

-- the own result of a step or a decision. A carried one is COMPLETED with its earlier exit status. One with a
-- work item is busy or has its outcome. One at its start limit fails the job. Any other is ready. A decision
-- is neither carried nor barred.
abbrev pub runnable_result : WorkKey → Fact → ElementResult
runnable_result key (Carried exit) = Outcome CameCompleted exit
runnable_result key Busy = busy_result key
runnable_result key (Over outcome exit) = Outcome outcome exit
runnable_result key Barred = ListValue (Ended Failed (status_name Failed) None)
runnable_result key Nothing = ready_result key

-- ---- Partitioned steps

-- whether a partition has no work item, and nothing prevents one
abbrev pub is_left : Fact → Bool
is_left Nothing = true
is_left Barred = false
is_left Busy = false
is_left (Carried exit) = false
is_left (Over outcome exit) = false

-- whether a partition is being run
abbrev pub is_busy : Fact → Bool
is_busy Busy = true
is_busy Nothing = false
is_busy Barred = false
is_busy (Carried exit) = false
is_busy (Over outcome exit) = false

-- whether a partition's step has reached its start limit
abbrev pub is_barred : Fact → Bool
is_barred Barred = true
is_barred Nothing = false
is_barred Busy = false
is_barred (Carried exit) = false
is_barred (Over outcome exit) = false

-- whether a partition is over and FAILED
abbrev pub is_failed : Fact → Bool
is_failed (Over CameFailed exit) = true
is_failed _ = false

-- whether a partition is over and STOPPED
abbrev pub is_stopped : Fact → Bool
is_stopped (Over CameStopped exit) = true
is_stopped _ = false

-- whether the fact about some partition passes a test
abbrev pub has_fact : (Fact → Bool) → List Known → Bool
has_fact test partitions = list_any (λ one. test one.fact) partitions

-- the work keys of the partitions whose fact passes a test
abbrev pub keys_with : (Fact → Bool) → List Known → List WorkKey
keys_with test partitions = map (λ one. one.key) (filter (λ one. test one.fact) partitions)

-- the outcome of partitions that are over: FAILED if one FAILED, else STOPPED if one is STOPPED, else
-- COMPLETED
abbrev pub strongest_outcome : List Known → WorkOutcome
strongest_outcome partitions =
    if has_fact is_failed partitions then CameFailed else if has_fact is_stopped partitions then CameStopped else CameCompleted

-- an outcome with its name as the exit status
abbrev pub named_outcome : WorkOutcome → ElementResult
named_outcome outcome = Outcome outcome (outcome_name outcome)

-- the own result of a step without a barred partition: open while a partition has no work item or is busy,
-- and then their strongest outcome
abbrev pub open_or_over : List Known → ElementResult
open_or_over partitions =
    if has_fact is_left partitions || has_fact is_busy partitions
    then ListValue (Open (keys_with is_left partitions) (keys_with is_busy partitions))
    else named_outcome (strongest_outcome partitions)

-- the own result of a partitioned step, from its partitions' facts. A barred partition fails the job: no
-- partition of a step at its start limit was handed out.
abbrev pub partitioned_result : List Known → ElementResult
partitioned_result partitions =
    if has_fact is_barred partitions then ListValue (Ended Failed (status_name Failed) None) else open_or_over partitions

-- the own result of a step, from the facts about its work keys
abbrev pub step_result : (WorkKey → Fact) → List ℕ → Option ℕ → ElementResult
step_result facts id None = runnable_result (key_of id 0) (facts (key_of id 0))
step_result facts id (Some count) = partitioned_result (known_of facts (keys_of_step id (Some count)))

-- ---- Lists

-- an element of a list, with its own result
pub record WalkedElement : Type 0 where
  pub id : List ℕ
  pub next : Option (List ℕ)
  pub transitions : List Transition
  pub own_result : ElementResult

-- the list's value by a transition element: `on` is the list's value from each of its elements
abbrev pub value_by_transition : (List ℕ → Value) → Then → Value
value_by_transition on (Next to) = on to
value_by_transition on (End exit) = Ended Completed (unwrap_or exit (status_name Completed)) None
value_by_transition on (Fail exit) = Ended Failed (unwrap_or exit (status_name Failed)) None
value_by_transition on (Stop exit point) = Ended Stopped (unwrap_or exit (status_name Stopped)) point

-- the list's value after an outcome. STOPPED ends the job. Else the first transition element that matches the
-- exit status decides. Without one, FAILED ends the job, and COMPLETED follows `next` or ends the list.
abbrev pub value_after_outcome : (List ℕ → Value) → Option (List ℕ) → Option Transition → WorkOutcome → List ℕ → Value
value_after_outcome on next transition CameStopped exit = Ended Stopped (status_name Stopped) None
value_after_outcome on next (Some transition) CameCompleted exit = value_by_transition on transition.then
value_after_outcome on next (Some transition) CameFailed exit = value_by_transition on transition.then
value_after_outcome on next None CameFailed exit = Ended Failed (status_name Failed) None
value_after_outcome on (Some to) None CameCompleted exit = on to
value_after_outcome on None None CameCompleted exit = Done exit

-- the list's value at an element with this own result
abbrev pub value_by_result : (List ℕ → Value) → WalkedElement → ElementResult → Value
value_by_result on element (ListValue value) = value
value_by_result on element (Outcome outcome exit) = value_after_outcome on element.next (matching_transition element.transitions exit) outcome exit

-- the list's value at an element, if it has that element
abbrev pub value_at : (List ℕ → Value) → Option WalkedElement → Value
value_at on None = Done []
value_at on (Some element) = value_by_result on element element.own_result

-- the list's value from the element with this id, over at most `n` elements
abbrev pub follow : ℕ → List WalkedElement → List ℕ → Value
follow zero elements id = Done []
follow (suc n) elements id = value_at (follow n elements) (find (λ element. bytes_eq element.id id) elements)

-- the list's value from the element with this id; no element is visited twice, so the number of elements is a
-- sufficient bound
abbrev pub list_value : List WalkedElement → List ℕ → Value
list_value elements from = follow (length elements) elements from

-- the id of the first element
abbrev pub first_id : List WalkedElement → List ℕ
first_id [] = []
first_id (element ∷ elements) = element.id

-- the list's value from its first element
abbrev pub whole_value : List WalkedElement → Value
whole_value elements = list_value elements (first_id elements)

-- the list's value after a continuation: `on` is the list's value from each of its elements
abbrev pub value_of_continuation : (List ℕ → Value) → Continuation → Value
value_of_continuation on (AtElement id) = on id
value_of_continuation on (WithValue value) = value

-- ---- Flows and splits

-- a flow's own result: at the end of its list, it is COMPLETED with the exit status of the list's last
-- element
abbrev pub flow_result : Value → ElementResult
flow_result (Open ready busy) = ListValue (Open ready busy)
flow_result (Ended status exit point) = ListValue (Ended status exit point)
flow_result (Done exit) = Outcome CameCompleted exit

-- the ready work keys of all flows of a split, in written order
abbrev pub all_ready : List Value → List WorkKey
all_ready [] = []
all_ready (Open ready busy ∷ rest) = ready ++ all_ready rest
all_ready (Done exit ∷ rest) = all_ready rest
all_ready (Ended status exit point ∷ rest) = all_ready rest

-- the busy work keys of all flows of a split, in written order
abbrev pub all_busy : List Value → List WorkKey
all_busy [] = []
all_busy (Open ready busy ∷ rest) = busy ++ all_busy rest
all_busy (Done exit ∷ rest) = all_busy rest
all_busy (Ended status exit point ∷ rest) = all_busy rest

-- whether a flow is under way
abbrev pub is_open : Value → Bool
is_open (Open ready busy) = true
is_open (Done exit) = false
is_open (Ended status exit point) = false

-- whether some flow is under way
abbrev pub any_open : List Value → Bool
any_open [] = false
any_open (value ∷ rest) = is_open value || any_open rest

-- whether a flow ended the job with this status: FAILED, STOPPED or COMPLETED
abbrev pub ended_as : BatchStatus → Value → Bool
ended_as Failed (Ended Failed exit point) = true
ended_as Stopped (Ended Stopped exit point) = true
ended_as Completed (Ended Completed exit point) = true
ended_as _ _ = false

-- the strongest end is FAILED, then STOPPED, then COMPLETED; without an end, the split is COMPLETED
abbrev pub strongest_end : Option Value → Option Value → Option Value → ElementResult
strongest_end (Some failed) stopped completed = ListValue failed
strongest_end None (Some stopped) completed = ListValue stopped
strongest_end None None (Some completed) = ListValue completed
strongest_end None None None = Outcome CameCompleted (status_name Completed)

-- a split's own result. While a flow is under way, it is the ready and busy work keys of all flows. Then it
-- is the strongest end of a flow: the first in written order, among equals.
abbrev pub split_result : List Value → ElementResult
split_result flows =
    if any_open flows
    then ListValue (Open (all_ready flows) (all_busy flows))
    else strongest_end (find (ended_as Failed) flows) (find (ended_as Stopped) flows) (find (ended_as Completed) flows)

-- ---- Elements

-- the result of an element's body, given the values of the lists inside it; a step or a decision has its
-- result from the facts
pub data BodyResult : Type 0 where
  IsStep : StepRecord → BodyResult
  IsDecision : BodyResult
  HasResult : ElementResult → BodyResult

abbrev pub body_result : Body-F BodyResult WalkedElement Value → BodyResult
body_result (Step step) = IsStep step
body_result (Decision artifact) = IsDecision
body_result (Flow elements) = HasResult (flow_result (whole_value elements))
body_result (Split flows) = HasResult (split_result flows)

-- an element's own result; that of a step or a decision is from the facts about its work keys
abbrev pub element_result : (WorkKey → Fact) → List ℕ → BodyResult → ElementResult
element_result facts id (IsStep step) = step_result facts id step.partitions
element_result facts id IsDecision = runnable_result (key_of id 0) (facts (key_of id 0))
element_result facts id (HasResult own_result) = own_result

abbrev pub element_with_result : (WorkKey → Fact) → Element-F BodyResult WalkedElement Value → WalkedElement
element_with_result facts x =
    record { id = x.id; next = x.next; transitions = x.transitions; own_result = element_result facts x.id x.body }

abbrev pub flow_value : SplitFlow-F BodyResult WalkedElement Value → Value
flow_value x = whole_value x.elements

-- an element with its own result
abbrev pub walked_element : (WorkKey → Fact) → Element → WalkedElement
walked_element facts = fold-Element BodyResult WalkedElement Value body_result (element_with_result facts) flow_value

abbrev pub walked_body : (WorkKey → Fact) → Body → BodyResult
walked_body facts = fold-Body BodyResult WalkedElement Value body_result (element_with_result facts) flow_value

-- the value of a flow of a split
abbrev pub value_of_flow : (WorkKey → Fact) → SplitFlow → Value
value_of_flow facts = fold-SplitFlow BodyResult WalkedElement Value body_result (element_with_result facts) flow_value

-- THE WALK: the value of a list of elements, from the element with this id
abbrev pub value_of : (WorkKey → Fact) → List Element → List ℕ → Value
value_of facts elements from = list_value (map (walked_element facts) elements) from
