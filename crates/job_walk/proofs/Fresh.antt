-- What a plan that says nothing of any step leaves known at first: nothing.
use Rattle.std.proofs.Common.{◌≡◌, ℕ, false, Option, Some, None, List, [], length, get_or, ◌==◌, true, refl, sym, ◌∙◌, ap, Result, Ok, Err, IfOk}
use Rattle.std.proofs.lemmas.Bool.{eqb-true}
use Rattle.std.proofs.lemmas.List.{nil_from_length}
use Rattle.jsl_model.specs.declared.element.Element.{Element}
use Rattle.jsl_model.specs.Jobs.{JobTree}
use Rattle.jsl_model.specs.Names.{is_among}
use Rattle.walk_rules.specs.declared.facts.Known.{Known}
use Rattle.walk_rules.specs.declared.facts.Value.{Value}
use Rattle.walk_rules.specs.declared.work_key.WorkKey.{WorkKey}
use Rattle.walk_rules.specs.Keys.{has_key}
use Rattle.walk_rules.specs.Walk.{fact_of, value_of}
use Rattle.job_plans.specs.declared.plan.Plan.{Plan}
use Rattle.job_plans.specs.declared.runnable.Runnable.{Runnable}
use Rattle.job_plans.specs.declared.runnable.Runnable.TheVariants.{Step as RunsStep, Decision as RunsDecision}
use Rattle.job_plans.specs.Cursors.{fact_at_first, resumed, value_in}
use Rattle.job_plans.specs.Plans.{carried_exit, keeps_partition}
use Rattle.job_plans.specs.Runnables.{keys_of, all_leaves}
use Rattle.job_plans.proofs.Beginning.{resumed-value}

-- a plan that says nothing of any step
abbrev pub SaysNothing : Plan → Type 0
SaysNothing plan = (plan.carried ≡ []) × (plan.kept ≡ []) × (plan.barred ≡ [])

-- nothing that is named by none is kept
keeps-none : (plan : Plan) → plan.kept ≡ [] → (partitions : Option ℕ) (key : WorkKey) → keeps_partition plan partitions key ≡ false
keeps-none plan none None key = refl
keeps-none plan none (Some count) key = ap (λ kept. has_key kept key) none

fresh-fact : (plan : Plan) → SaysNothing plan → (partitions : Option ℕ) (key : WorkKey) (runs : Runnable)
    → fact_of [] key ≡ fact_at_first plan [] partitions key runs
fresh-fact plan says partitions key (RunsDecision artifact) = refl
fresh-fact plan says partitions key (RunsStep task) =
    let c : carried_exit plan.carried key.element ≡ None = ap (λ carried. carried_exit carried key.element) says.0 in
    let k : keeps_partition plan partitions key ≡ false = keeps-none plan says.1 partitions key in
    let b : is_among plan.barred key.element ≡ false = ap (λ barred. is_among barred key.element) says.2 in
    rw (c, k, b) refl

-- its walk comes to what the job comes to where nothing is known
pub fresh-value : (job : JobTree) (plan : Plan) (known : List Known) → SaysNothing plan → known ≡ [] → (value : Value)
    → value ≡ value_of (fact_of known) job.elements plan.from → value ≡ value_in (resumed job plan known)
fresh-value job plan known says none value is =
    let here : value_in (resumed job plan []) ≡ value_of (fact_of []) job.elements plan.from =
    resumed-value job plan [] (fact_of []) (λ i d lt j e lt2. fresh-fact plan says (get_or (all_leaves job.elements) i d).partitions (get_or (keys_of (get_or (all_leaves job.elements) i d)) j e) (get_or (all_leaves job.elements) i d).runs) in
    is ∙ (ap (λ these. value_of (fact_of these) job.elements plan.from) none ∙ (sym here ∙ ap (λ these. value_in (resumed job plan these)) (sym none)))

-- the same where it is a walk by these elements that came to it
pub fresh-ok : {E : Type 0} (job : JobTree) (plan : Plan) (known : List Known) → SaysNothing plan → (length known == 0) ≡ true → (elements : List Element) → elements ≡ job.elements
    → (result : Result Value E) → IfOk result (λ value. value ≡ value_of (fact_of known) elements plan.from)
    → IfOk result (λ value. value ≡ value_in (resumed job plan known))
fresh-ok job plan known says none elements same (Ok value) is =
    fresh-value job plan known says (nil_from_length known (eqb-true (length known) 0 none)) value (is ∙ ap (λ these. value_of (fact_of known) these plan.from) same)
fresh-ok job plan known says none elements same (Err refused) is = tt
