-- Walks begin at elements of their jobs' own lists.
use Rattle.std.proofs.Common.{◌≡◌, ℕ, ◌||◌, Bool, true, false, Option, None, Some, Result, Ok, Err, IfOk, List, ◌∷◌, refl, sym, ◌∙◌, ap, subst}
use Rattle.std.specs.Cmp.Lexicographic.{bytes_decides}
use Rattle.std.specs.Str.{bytes_eq}
use Rattle.jsl_model.specs.Faults.{IsChecked}
use Rattle.jsl_model.specs.Jobs.{JobTree}
use Rattle.jsl_model.specs.declared.element.Element.{Element}
use Rattle.job_plans.proofs.Points.{checked-point}
use Rattle.job_plans.specs.Cursors.{begins_in}
use Rattle.job_plans.specs.Lists.{has_element}
use Rattle.job_plans.specs.Runnables.{all_leaves}
use Rattle.walk_rules.specs.declared.facts.Fact.{Fact}
use Rattle.walk_rules.specs.declared.facts.Value.{Value}
use Rattle.walk_rules.specs.declared.facts.Value.TheVariants.{Open, Done, Ended}
use Rattle.job_plans.specs.declared.plan.Plan.{Plan}
use Rattle.walk_rules.specs.declared.work_key.WorkKey.{WorkKey}
use Rattle.batch_history.specs.Restarts.{plan_by, restart_point}
use Rattle.batch_history.specs.Walks.{planned_facts, walk_of}
use Rattle.batch_history.specs.declared.rows.WorkRow.{WorkRow}
use Rattle.restart_rules.specs.Placed.{begins_in_job}

-- what is placed begins in its job
pub placed_begins : (plan : Plan) (named : Option JobTree) (job : JobTree) → begins_in_job plan named ≡ true → named ≡ Some job → begins_in plan job ≡ true
placed_begins plan named job placed is = subst (λ (o : Option JobTree). begins_in_job plan o ≡ true) is placed

-- a list has its first element
pub first_begins : (first : Element) (rest : List Element) → has_element (first ∷ rest) first.id ≡ true
first_begins first rest =
    let here : bytes_eq first.id first.id ≡ true = (bytes_decides first.id first.id).1 refl in
    ap (λ b. b || has_element rest first.id) here

point-begins : (job : JobTree) → IsChecked job → (plan : Plan) (worked : WorkKey → Fact) (taken : Bool) (value : Value) → walk_of plan worked (Some job) ≡ value
    → has_element job.elements plan.from ≡ true → has_element job.elements (restart_point taken value plan.from) ≡ true
point-begins job checked plan worked true (Ended status exit (Some point)) is begins =
    checked-point job checked (planned_facts plan (all_leaves job.elements) worked) plan.from status exit point is
point-begins job checked plan worked true (Ended status exit None) is begins = begins
point-begins job checked plan worked true (Open ready busy) is begins = begins
point-begins job checked plan worked true (Done exit) is begins = begins
point-begins job checked plan worked false value is begins = begins

-- so does a restart
pub restart_begins : (job : JobTree) → IsChecked job → (plan : Plan) (worked : WorkKey → Fact) (taken : Bool) → has_element job.elements plan.from ≡ true
    → has_element job.elements (restart_point taken (walk_of plan worked (Some job)) plan.from) ≡ true
restart_begins job checked plan worked taken begins = point-begins job checked plan worked taken (walk_of plan worked (Some job)) refl begins

-- the plan of a restart begins in the job too
pub begins_after : (job : JobTree) → IsChecked job → (plan : Plan) (named : Option JobTree) (worked : WorkKey → Fact) (taken : Bool) (value : Value) (from : List ℕ) (works : List WorkRow) (new : Plan)
    → named ≡ Some job → begins_in_job plan named ≡ true → value ≡ walk_of plan worked named → from ≡ restart_point taken value plan.from → new ≡ plan_by from works (Some job)
    → begins_in_job new named ≡ true
begins_after job checked plan named worked taken value from works new is placed walked point made =
    let begins : has_element job.elements plan.from ≡ true = placed_begins plan named job placed is in
    let walk : value ≡ walk_of plan worked (Some job) = walked ∙ ap (walk_of plan worked) is in
    let here : new.from ≡ restart_point taken (walk_of plan worked (Some job)) plan.from =
    ap (λ (p : Plan). p.from) made ∙ (point ∙ ap (λ v. restart_point taken v plan.from) walk) in
    ap (begins_in_job new) is ∙ (ap (has_element job.elements) here ∙ restart_begins job checked plan worked taken begins)

-- it is the one that is due
pub planned_alike : (job : JobTree) (named : Option JobTree) (from point : List ℕ) (works rows : List WorkRow) → named ≡ Some job → from ≡ point → works ≡ rows
    → plan_by from works (Some job) ≡ plan_by point rows named
planned_alike job named from point works rows is same alike =
    ap (λ f. plan_by f works (Some job)) same ∙ (ap (λ (w : List WorkRow). plan_by point w (Some job)) alike ∙ ap (plan_by point rows) (sym is))

pub if_ok_same : {T E : Type 0} (result : Result T E) (one two : T) → IfOk result (λ t. t ≡ one) → one ≡ two → IfOk result (λ t. t ≡ two)
if_ok_same (Ok t) one two h same = h ∙ same
if_ok_same (Err e) one two h same = tt

pub if_ok_then : {T E : Type 0} (result : Result T E) (one : T) (P : T → Type 0) → IfOk result (λ t. t ≡ one) → ((t : T) → t ≡ one → P t) → IfOk result P
if_ok_then (Ok t) one P h so = so t h
if_ok_then (Err e) one P h so = tt
