-- A walk that is resumed by a plan and by what is known of its work keys comes to what the walk of the job execution does.
use mathlib.Core.Path.{fun_ext}
use Rattle.std.proofs.Common.{◌≡◌, ℕ, ◌||◌, Bool, true, false, cond, Option, Some, List, [], ◌∷◌, ◌++◌, find, refl, sym, ◌∙◌, ap}
use Rattle.std.specs.List.{flat_map}
use Rattle.std.specs.Option.{option_and_then, option_map}
use Rattle.jsl_model.specs.Jobs.{JobTree}
use Rattle.job_plans.specs.Cursors.{fact_at_first, known_at_first, resumed, value_in}
use Rattle.walk_rules.specs.Keys.{is_same_key, has_key}
use Rattle.job_plans.specs.Runnables.{Leaf, all_leaves, keys_of}
use Rattle.walk_rules.specs.Walk.{fact_of, known_of, value_of}
use Rattle.walk_rules.specs.declared.facts.Fact.{Fact}
use Rattle.walk_rules.specs.declared.facts.Known.{Known}
use Rattle.job_plans.specs.declared.plan.Plan.{Plan}
use Rattle.job_plans.specs.declared.runnable.Runnable.{Runnable}
use Rattle.job_plans.specs.declared.runnable.Runnable.TheVariants.{Step as RunsStep, Decision as RunsDecision}
use Rattle.walk_rules.specs.declared.work_key.WorkKey.{WorkKey}
use Rattle.walk_rules.proofs.SameKeys.{same-one, same-sym}
use Rattle.batch_history.specs.Walks.{runnable_fact, planned_facts, facts_by_work, walk_of, walk_value, job_named, known_elements}
use Rattle.batch_history.specs.declared.rows.WorkRow.{WorkRow}
use Rattle.batch_history.proofs.Knowing.{known-facts}

-- what is known of a work key by facts of these work keys, and then by others
known-or-rest : (facts : WorkKey → Fact) (keys : List WorkKey) (rest : List Known) (key : WorkKey)
    → fact_of (known_of facts keys ++ rest) key ≡ cond (has_key keys key) (facts key) (fact_of rest key)
known-or-rest facts [] rest key = refl
known-or-rest facts (one ∷ keys) rest key =
    (elim (is_same_key one key) as (λ b. is_same_key one key ≡ b → cond b (facts one) (fact_of (known_of facts keys ++ rest) key)
    ≡ cond (is_same_key key one || has_key keys key) (facts key) (fact_of rest key)) [
      | true ↦ λ e. ap facts (same-one one key e) ∙ sym (ap (λ b. cond (b || has_key keys key) (facts key) (fact_of rest key)) (same-sym key one ∙ e))
      | false ↦ λ e. known-or-rest facts keys rest key ∙ sym (ap (λ b. cond (b || has_key keys key) (facts key) (fact_of rest key)) (same-sym key one ∙ e))
    ]) refl

same-fact : (plan : Plan) (known : List Known) (partitions : Option ℕ) (key : WorkKey) (runs : Runnable)
    → fact_at_first plan known partitions key runs ≡ runnable_fact plan partitions key (fact_of known key) (Some runs)
same-fact plan known partitions key (RunsStep task) = refl
same-fact plan known partitions key (RunsDecision artifact) = refl

same-facts : (plan : Plan) (known : List Known) (leaves : List Leaf) (key : WorkKey)
    → fact_of (flat_map (known_at_first plan known) leaves) key ≡ planned_facts plan leaves (fact_of known) key
same-facts plan known [] key = refl
same-facts plan known (leaf ∷ rest) key =
    known-or-rest (λ one. fact_at_first plan known leaf.partitions one leaf.runs) (keys_of leaf) (flat_map (known_at_first plan known) rest) key
    ∙ (elim (has_key (keys_of leaf) key) as (λ b. cond b (fact_at_first plan known leaf.partitions key leaf.runs) (fact_of (flat_map (known_at_first plan known) rest) key)
    ≡ runnable_fact plan (option_and_then (λ (l : Leaf). l.partitions) (cond b (Some leaf) (find (λ (l : Leaf). has_key (keys_of l) key) rest))) key (fact_of known key)
    (option_map (λ (l : Leaf). l.runs) (cond b (Some leaf) (find (λ (l : Leaf). has_key (keys_of l) key) rest)))) [
      | true ↦ same-fact plan known leaf.partitions key leaf.runs
      | false ↦ same-facts plan known rest key
    ])

-- the value of the walk that is resumed
pub resumed_value : (catalogue : List JobTree) (works : List WorkRow) (x : ℕ) (job : List ℕ) (tree : JobTree) (plan : Plan) (known : List Known)
    → job_named catalogue job ≡ Some tree → known ≡ known_elements x works → value_in (resumed tree plan known) ≡ walk_value catalogue works x job plan
resumed_value catalogue works x job tree plan known named is =
    let leaves : List Leaf = all_leaves tree.elements in
    ap (λ (k : List Known). value_in (resumed tree plan k)) is
    ∙ (ap (λ f. value_of f tree.elements plan.from) (fun_ext (λ key. same-facts plan (known_elements x works) leaves key))
    ∙ (ap (λ f. value_of (planned_facts plan leaves f) tree.elements plan.from) (sym (known-facts x works))
    ∙ ap (walk_of plan (facts_by_work x works)) (sym named)))
