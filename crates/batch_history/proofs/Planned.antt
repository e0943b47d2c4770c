-- What is known of the work keys of a job by a plan, after what their work items tell.
use Rattle.std.proofs.Common.{◌≡◌, ℕ, Bool, true, false, Option, None, Some, is_some, List, refl, ap}
use Rattle.jsl_model.specs.Names.{is_among}
use Rattle.job_plans.specs.Plans.{bars_kept, carried_exit, keeps_partition, step_fact, unless_barred}
use Rattle.job_plans.specs.Runnables.{Leaf, partitions_with, runnable_with}
use Rattle.walk_rules.specs.Walk.{is_barred}
use Rattle.walk_rules.specs.declared.facts.Fact.{Fact}
use Rattle.walk_rules.specs.declared.facts.Fact.TheVariants.{Nothing, Carried, Busy, Over, Barred}
use Rattle.job_plans.specs.declared.plan.Plan.{Plan}
use Rattle.job_plans.specs.declared.runnable.Runnable.{Runnable}
use Rattle.job_plans.specs.declared.runnable.Runnable.TheVariants.{Step as RunsStep, Decision as RunsDecision}
use Rattle.walk_rules.specs.declared.work_key.WorkKey.{WorkKey}
use Rattle.batch_history.specs.Walks.{runnable_fact, planned_facts}
use Rattle.batch_history.proofs.Sights.{DifferAt}

-- whether a work item is over
abbrev pub is_over : Fact → Bool
is_over (Over outcome exit) = true
is_over Nothing = false
is_over Busy = false
is_over (Carried exit) = false
is_over Barred = false

-- facts that differ at one work key alone
pub planned-differ : (plan : Plan) (leaves : List Leaf) (key : WorkKey) (worked later : WorkKey → Fact) → DifferAt key worked later
    → DifferAt key (planned_facts plan leaves worked) (planned_facts plan leaves later)
planned-differ plan leaves key worked later differ i other = ap (λ f. runnable_fact plan (partitions_with leaves i) i f (runnable_with leaves i)) (differ i other)

unbarred-nothing : (worked : Fact) (barred : Bool) → unless_barred worked barred ≡ Nothing → worked ≡ Nothing
unbarred-nothing Nothing barred h = refl
unbarred-nothing Busy barred h = cc
unbarred-nothing (Over outcome exit) barred h = cc
unbarred-nothing (Carried exit) barred h = cc
unbarred-nothing Barred barred h = cc

step-nothing : (carried : Option (List ℕ)) (all kept : Bool) (worked : Fact) (barred : Bool) → step_fact carried all kept worked barred ≡ Nothing → worked ≡ Nothing
step-nothing (Some exit) all kept worked barred h = cc
step-nothing None true kept worked barred h = cc
step-nothing None false true worked barred h = cc
step-nothing None false false worked barred h = unbarred-nothing worked barred h

runnable-nothing : (plan : Plan) (partitions : Option ℕ) (key : WorkKey) (worked : Fact) (runs : Option Runnable) → is_some runs ≡ true → runnable_fact plan partitions key worked runs ≡ Nothing → worked ≡ Nothing
runnable-nothing plan partitions key worked None some h = cc
runnable-nothing plan partitions key worked (Some (RunsStep task)) some h =
    step-nothing (carried_exit plan.carried key.element) (bars_kept plan key.element partitions) (keeps_partition plan partitions key) worked (is_among plan.barred key.element) h
runnable-nothing plan partitions key worked (Some (RunsDecision artifact)) some h = h

-- where nothing is known of what is run, there is no work item of it
pub planned-nothing : (plan : Plan) (leaves : List Leaf) (worked : WorkKey → Fact) (key : WorkKey) → is_some (runnable_with leaves key) ≡ true
    → planned_facts plan leaves worked key ≡ Nothing → worked key ≡ Nothing
planned-nothing plan leaves worked key some h = runnable-nothing plan (partitions_with leaves key) key (worked key) (runnable_with leaves key) some h

step-busy : (carried : Option (List ℕ)) (all kept : Bool) (worked later : Fact) (barred : Bool) → step_fact carried all kept worked barred ≡ Nothing → later ≡ Busy
    → step_fact carried all kept later barred ≡ Busy
step-busy (Some exit) all kept worked later barred h is = cc
step-busy None true kept worked later barred h is = cc
step-busy None false true worked later barred h is = cc
step-busy None false false worked later barred h is = ap (λ f. unless_barred f barred) is

runnable-busy : (plan : Plan) (partitions : Option ℕ) (key : WorkKey) (worked later : Fact) (runs : Option Runnable) → is_some runs ≡ true → runnable_fact plan partitions key worked runs ≡ Nothing → later ≡ Busy
    → runnable_fact plan partitions key later runs ≡ Busy
runnable-busy plan partitions key worked later None some h is = cc
runnable-busy plan partitions key worked later (Some (RunsStep task)) some h is =
    step-busy (carried_exit plan.carried key.element) (bars_kept plan key.element partitions) (keeps_partition plan partitions key) worked later (is_among plan.barred key.element) h is
runnable-busy plan partitions key worked later (Some (RunsDecision artifact)) some h is = is

-- where nothing was known of what is run, and a work item of it is busy now, it is busy
pub planned-busy : (plan : Plan) (leaves : List Leaf) (worked later : WorkKey → Fact) (key : WorkKey) → is_some (runnable_with leaves key) ≡ true
    → planned_facts plan leaves worked key ≡ Nothing → later key ≡ Busy → planned_facts plan leaves later key ≡ Busy
planned-busy plan leaves worked later key some h is = runnable-busy plan (partitions_with leaves key) key (worked key) (later key) (runnable_with leaves key) some h is

unbarred-over : (later : Fact) (barred : Bool) → is_over later ≡ true → is_barred (unless_barred later barred) ≡ false
unbarred-over Nothing barred h = cc
unbarred-over Busy barred h = cc
unbarred-over (Over outcome exit) barred h = refl
unbarred-over (Carried exit) barred h = cc
unbarred-over Barred barred h = cc

step-over : (carried : Option (List ℕ)) (all kept : Bool) (worked later : Fact) (barred : Bool) → step_fact carried all kept worked barred ≡ Busy
    → is_over later ≡ true → is_barred (step_fact carried all kept later barred) ≡ false
step-over (Some exit) all kept worked later barred h over = cc
step-over None true kept worked later barred h over = cc
step-over None false true worked later barred h over = cc
step-over None false false worked later barred h over = unbarred-over later barred over

over-unbarred : (later : Fact) → is_over later ≡ true → is_barred later ≡ false
over-unbarred Nothing h = cc
over-unbarred Busy h = cc
over-unbarred (Over outcome exit) h = refl
over-unbarred (Carried exit) h = cc
over-unbarred Barred h = cc

runnable-over : (plan : Plan) (partitions : Option ℕ) (key : WorkKey) (worked later : Fact) (runs : Option Runnable) → runnable_fact plan partitions key worked runs ≡ Busy → is_over later ≡ true
    → is_barred (runnable_fact plan partitions key later runs) ≡ false
runnable-over plan partitions key worked later None h over = cc
runnable-over plan partitions key worked later (Some (RunsStep task)) h over =
    step-over (carried_exit plan.carried key.element) (bars_kept plan key.element partitions) (keeps_partition plan partitions key) worked later (is_among plan.barred key.element) h over
runnable-over plan partitions key worked later (Some (RunsDecision artifact)) h over = over-unbarred later over

-- a work item that was busy, and is over now, is not barred
pub planned-reported : (plan : Plan) (leaves : List Leaf) (worked later : WorkKey → Fact) (key : WorkKey) → planned_facts plan leaves worked key ≡ Busy
    → is_over (later key) ≡ true → is_barred (planned_facts plan leaves later key) ≡ false
planned-reported plan leaves worked later key h over = runnable-over plan (partitions_with leaves key) key (worked key) (later key) (runnable_with leaves key) h over
