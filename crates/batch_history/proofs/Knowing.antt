-- What is known of the work keys of a job execution, gathered in a list.
use mathlib.Core.Path.{fun_ext}
use Rattle.std.proofs.Common.{◌≡◌, ℕ, ◌==◌, ◌&&◌, true, false, cond, Some, List, [], ◌∷◌, find, refl, sym, ◌∙◌, ap}
use Rattle.jsl_model.specs.Jobs.{JobTree}
use Rattle.walk_rules.specs.Keys.{is_same_key}
use Rattle.walk_rules.specs.Walk.{fact_of}
use Rattle.walk_rules.specs.declared.work_key.WorkKey.{WorkKey}
use Rattle.walk_rules.specs.declared.facts.Known.{Known}
use Rattle.job_plans.specs.declared.plan.Plan.{Plan}
use Rattle.batch_history.specs.Walks.{fact_of_state, is_work_of, fact_by_work, facts_by_work, known_elements, walk_of, walk_value, job_named}
use Rattle.batch_history.specs.Works.{work_key}
use Rattle.batch_history.specs.declared.rows.WorkRow.{WorkRow}

-- the list tells what the work item of a work key tells
pub known-fact : (x : ℕ) (works : List WorkRow) (key : WorkKey) → facts_by_work x works key ≡ fact_of (known_elements x works) key
known-fact x [] key = refl
known-fact x (r ∷ rs) key =
    let k : Known = record { key = work_key r; fact = fact_of_state r.state } in
    elim (r.execution == x) as (λ b. fact_by_work (cond (b && is_same_key (work_key r) key) (Some r) (find (is_work_of x key) rs))
    ≡ fact_of (cond b (k ∷ known_elements x rs) (known_elements x rs)) key) [
      | true ↦ elim (is_same_key (work_key r) key) as (λ b. fact_by_work (cond b (Some r) (find (is_work_of x key) rs)) ≡ cond b k.fact (fact_of (known_elements x rs) key)) [
        | true ↦ refl
        | false ↦ known-fact x rs key
      ]
      | false ↦ known-fact x rs key
    ]

pub known-facts : (x : ℕ) (works : List WorkRow) → facts_by_work x works ≡ fact_of (known_elements x works)
known-facts x works = fun_ext (known-fact x works)

-- the same is known where the lists are the same
pub facts-same : (x : ℕ) (one two : List WorkRow) → known_elements x one ≡ known_elements x two → facts_by_work x one ≡ facts_by_work x two
facts-same x one two same = known-facts x one ∙ (ap fact_of same ∙ sym (known-facts x two))

-- the walk by the list
pub walk_known : (catalogue : List JobTree) (works : List WorkRow) (x : ℕ) (job : List ℕ) (plan : Plan) (known : List Known) → known ≡ known_elements x works
    → walk_of plan (fact_of known) (job_named catalogue job) ≡ walk_value catalogue works x job plan
walk_known catalogue works x job plan known is = ap (λ f. walk_of plan f (job_named catalogue job)) (ap fact_of is ∙ sym (known-facts x works))
