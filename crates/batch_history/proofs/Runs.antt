-- What a walk shows as ready or busy is a work key of a step or a decision of the job.
use Rattle.std.proofs.Common.{◌≡◌, ◌⊎◌, inl, inr, ℕ, Bool, true, false, cond, ◌||◌, ◌&&◌, Option, None, Some, is_some, unwrap_or, List, [], ◌∷◌, ◌++◌, map, find, refl, sym, ◌∙◌, ap}
use Rattle.std.specs.Option.{option_map, option_and_then}
use Rattle.std.proofs.lemmas.List.Folds.{list_any-append}
use Rattle.jsl_model.specs.Jobs.{JobTree}
use Rattle.jsl_model.specs.declared.element.Element.{Element}
use Rattle.walk_rules.specs.Shown.{ready_of, busy_of}
use Rattle.walk_rules.specs.Keys.{has_key, is_same_key, key_of, keys_of_step, numbers_to}
use Rattle.job_plans.specs.Runnables.{Leaf, all_leaves, keys_of, all_keys, leaf_with, runnable_with, partitions_with}
use Rattle.walk_rules.specs.Walk.{value_of}
use Rattle.walk_rules.specs.declared.facts.Fact.{Fact}
use Rattle.walk_rules.specs.declared.facts.Value.{Value}
use Rattle.walk_rules.specs.declared.facts.Value.TheVariants.{Open, Done, Ended}
use Rattle.job_plans.specs.declared.plan.Plan.{Plan}
use Rattle.walk_rules.specs.declared.work_key.WorkKey.{WorkKey}
use Rattle.walk_rules.proofs.SameKeys.{same-one}
use Rattle.job_plans.proofs.Shown.{ready-leaf, busy-leaf}
use Rattle.batch_history.specs.Replies.{partition_named, partitions_of_job}
use Rattle.batch_history.specs.Walks.{planned_facts, walk_of}
use Rattle.batch_history.proofs.Sights.{Sight, seen, own-key}

-- what is looked at both ways is found by one of them
one-way : (r b ready busy : Bool) → ((r && ready) || (b && busy)) ≡ true → (ready ≡ true) ⊎ (busy ≡ true)
one-way true b true busy h = inl refl
one-way true true false true h = inr refl
one-way true true false false h = cc
one-way true false false busy h = cc
one-way false true ready true h = inr refl
one-way false true ready false h = cc
one-way false false ready busy h = cc

-- what is seen is ready or busy
seen-so : (s : Sight) (key : WorkKey) (value : Value) → seen s key value ≡ true → (has_key (ready_of value) key ≡ true) ⊎ (has_key (busy_of value) key ≡ true)
seen-so s key (Open ready busy) h = one-way s.of_ready s.of_busy (has_key ready key) (has_key busy key) h
seen-so s key (Done exit) h = cc
seen-so s key (Ended status exit point) h = cc

seen-leaf : (s : Sight) (key : WorkKey) (facts : WorkKey → Fact) (elements : List Element) (from : List ℕ) → seen s key (value_of facts elements from) ≡ true
    → has_key (all_keys (all_leaves elements)) key ≡ true
seen-leaf s key facts elements from h =
    elim (seen-so s key (value_of facts elements from) h) [
      | inl ready ↦ ready-leaf facts elements from key ready
      | inr busy ↦ busy-leaf facts elements from key busy
    ]

-- what has one of these work keys is run
leaf-runs : (all : List Leaf) (key : WorkKey) → has_key (all_keys all) key ≡ true → is_some (runnable_with all key) ≡ true
leaf-runs [] key h = cc
leaf-runs (leaf ∷ rest) key h =
    (elim (has_key (keys_of leaf) key) as (λ b. (b || has_key (all_keys rest) key) ≡ true
    → is_some (option_map (λ (l : Leaf). l.runs) (cond b (Some leaf) (find (λ (l : Leaf). has_key (keys_of l) key) rest))) ≡ true) [
      | true ↦ λ e. refl
      | false ↦ λ e. leaf-runs rest key e
    ]) (sym (list_any-append (is_same_key key) (keys_of leaf) (all_keys rest)) ∙ h)

-- what a list of elements shows is run
pub elements-run : (s : Sight) (key : WorkKey) (facts : WorkKey → Fact) (elements : List Element) (from : List ℕ) → seen s key (value_of facts elements from) ≡ true
    → is_some (runnable_with (all_leaves elements) key) ≡ true
elements-run s key facts elements from h = leaf-runs (all_leaves elements) key (seen-leaf s key facts elements from h)

-- what a job execution's walk shows is run
pub walk-runs : (s : Sight) (key : WorkKey) (plan : Plan) (worked : WorkKey → Fact) (job : JobTree) → seen s key (walk_of plan worked (Some job)) ≡ true
    → is_some (runnable_with (all_leaves job.elements) key) ≡ true
walk-runs s key plan worked job h = elements-run s key (planned_facts plan (all_leaves job.elements) worked) job.elements plan.from h

-- ---- By the number of the partition

named-key : (id : List ℕ) (partitions : Option ℕ) (key : WorkKey) → has_key (keys_of_step id partitions) key ≡ true
    → unwrap_or (partition_named key.partition partitions) 0 ≡ key.partition
named-key id None key h =
    (elim (is_same_key key (key_of id 0)) as (λ b. is_same_key key (key_of id 0) ≡ b → (b || false) ≡ true → 0 ≡ key.partition) [
      | true ↦ λ e _. sym (ap (λ (k : WorkKey). k.partition) (same-one key (key_of id 0) e))
      | false ↦ λ e some. cc
    ]) refl h
named-key id (Some n) key h = refl

leaf-named : (all : List Leaf) (key : WorkKey) → is_some (runnable_with all key) ≡ true
    → unwrap_or (partition_named key.partition (partitions_with all key)) 0 ≡ key.partition
leaf-named [] key h = cc
leaf-named (leaf ∷ rest) key h =
    (elim (has_key (keys_of leaf) key) as (λ b. has_key (keys_of leaf) key ≡ b
    → is_some (option_map (λ (l : Leaf). l.runs) (cond b (Some leaf) (leaf_with rest key))) ≡ true
    → unwrap_or (partition_named key.partition (option_and_then (λ (l : Leaf). l.partitions) (cond b (Some leaf) (leaf_with rest key)))) 0 ≡ key.partition) [
      | true ↦ λ e _. named-key leaf.id leaf.partitions key e
      | false ↦ λ e some. leaf-named rest key some
    ]) refl h

-- a work key is named again by the partition that a work item of it has
pub key-named : (job : JobTree) (key : WorkKey) → is_some (runnable_with (all_leaves job.elements) key) ≡ true
    → record { element = key.element; partition = unwrap_or (partition_named key.partition (partitions_of_job (Some job) key)) 0 } ≡ key
key-named job key h = ap (λ p. record { element = key.element; partition = p }) (leaf-named (all_leaves job.elements) key h)
