-- The runnables of a job: its steps and decisions, at any depth, in written order, and their work keys.
use Rattle.std.specs.Prelude.{ℕ, Option, None, List, [], ◌∷◌, map, find}
use Rattle.std.specs.List.{flat_map}
use Rattle.std.specs.Option.{option_map, option_and_then}
use Rattle.jsl_model.specs.Trees.{joined}
use Rattle.jsl_model.specs.declared.element.Element.{Element, Element-F, fold-Element}
use Rattle.jsl_model.specs.declared.element.SplitFlow.{SplitFlow, SplitFlow-F, fold-SplitFlow}
use Rattle.jsl_model.specs.declared.element.Body.{Body, Body-F, fold-Body}
use Rattle.jsl_model.specs.declared.element.Body.TheOpen.{Step, Flow, Split, Decision}
use Rattle.walk_rules.specs.Keys.{has_key, keys_of_step}
use Rattle.walk_rules.specs.declared.work_key.WorkKey.{WorkKey}
use Rattle.job_plans.specs.declared.runnable.Runnable.{Runnable}
use Rattle.job_plans.specs.declared.runnable.Runnable.TheVariants.{Step as RunsStep, Decision as RunsDecision}

-- a step or a decision, with its task or artifact, and the number of partitions if it is a partitioned step
pub record Leaf : Type 0 where
  pub id : List ℕ
  pub runs : Runnable
  pub partitions : Option ℕ

-- the steps and decisions of a body: it is run itself, perhaps in partitions, or it holds steps and decisions
pub data Inside : Type 0 where
  IsRun : Runnable → Option ℕ → Inside
  Holds : List Leaf → Inside

abbrev pub body_leaves : Body-F Inside (List Leaf) (List Leaf) → Inside
body_leaves (Step step) = IsRun (RunsStep step.task) step.partitions
body_leaves (Decision artifact) = IsRun (RunsDecision artifact) None
body_leaves (Flow elements) = Holds (joined elements)
body_leaves (Split flows) = Holds (joined flows)

abbrev pub leaves_at : List ℕ → Inside → List Leaf
leaves_at id (IsRun runs partitions) = record { id = id; runs = runs; partitions = partitions } ∷ []
leaves_at id (Holds inside) = inside

abbrev pub element_leaves : Element-F Inside (List Leaf) (List Leaf) → List Leaf
element_leaves x = leaves_at x.id x.body

abbrev pub flow_leaves : SplitFlow-F Inside (List Leaf) (List Leaf) → List Leaf
flow_leaves x = joined x.elements

-- the steps and decisions of an element, in written order
abbrev pub leaves : Element → List Leaf
leaves = fold-Element Inside (List Leaf) (List Leaf) body_leaves element_leaves flow_leaves

-- the steps and decisions of a body
abbrev pub leaves_in_body : Body → Inside
leaves_in_body = fold-Body Inside (List Leaf) (List Leaf) body_leaves element_leaves flow_leaves

-- the steps and decisions of a flow of a split
abbrev pub leaves_of_flow : SplitFlow → List Leaf
leaves_of_flow = fold-SplitFlow Inside (List Leaf) (List Leaf) body_leaves element_leaves flow_leaves

-- the steps and decisions of a list of elements
abbrev pub all_leaves : List Element → List Leaf
all_leaves elements = joined (map leaves elements)

-- ---- Work keys

-- the work keys of a step or a decision, by rising partition
abbrev pub keys_of : Leaf → List WorkKey
keys_of leaf = keys_of_step leaf.id leaf.partitions

-- the work keys of these steps and decisions
abbrev pub all_keys : List Leaf → List WorkKey
all_keys leaves = flat_map keys_of leaves

-- ---- Runnables by work key

-- the first of these steps and decisions that has this work key
abbrev pub leaf_with : List Leaf → WorkKey → Option Leaf
leaf_with all key = find (λ leaf. has_key (keys_of leaf) key) all

-- the task or artifact of a work key, with the number of partitions
abbrev pub run_with : List Leaf → WorkKey → Option Inside
run_with all key = option_map (λ leaf. IsRun leaf.runs leaf.partitions) (leaf_with all key)

-- the task or artifact of a work key
abbrev pub runnable_with : List Leaf → WorkKey → Option Runnable
runnable_with all key = option_map (λ leaf. leaf.runs) (leaf_with all key)

-- the number of partitions of a work key's step, if it is partitioned
abbrev pub partitions_with : List Leaf → WorkKey → Option ℕ
partitions_with all key = option_and_then (λ leaf. leaf.partitions) (leaf_with all key)
