-- A plan of a legal history keeps no work key of a step that is not partitioned: no work item of such a step names a partition.
use Rattle.std.proofs.Common.{◌≡◌, ℕ, ◌==◌, ◌&&◌, ◌||◌, nat_lt, Bool, true, false, cond, Option, None, Some, unwrap_or, List, [], ◌∷◌, map, filter, find, refl, sym, ◌∙◌, ap}
use Rattle.std.specs.List.{flat_map, last_or, list_any}
use Rattle.std.specs.Str.{bytes_eq}
use Rattle.std.specs.Cmp.Lexicographic.{bytes_decides}
use Rattle.std.proofs.lemmas.Bool.{eqb-true, ne_eqb, and_parts}
use Rattle.std.proofs.lemmas.List.Folds.{list_any-append}
use Rattle.jsl_model.specs.Jobs.{JobTree}
use Rattle.walk_rules.specs.Keys.{has_key, is_same_key, key_of, numbers_to}
use Rattle.walk_rules.specs.declared.work_key.WorkKey.{WorkKey}
use Rattle.job_plans.specs.Plans.{is_kept, keeps_partition}
use Rattle.job_plans.specs.declared.plan.Plan.{Plan}
use Rattle.batch_history.specs.Executions.{Made}
use Rattle.batch_history.specs.JobSteps.{JobStep, all_steps}
use Rattle.batch_history.specs.Lists.{is_at, Each}
use Rattle.batch_history.specs.Partitions.{done_executions, is_completed_after, is_kept_after, is_of_partition, partitions_kept}
use Rattle.batch_history.specs.Replies.{partition_named, partitions_of_job}
use Rattle.batch_history.specs.Restarts.{beginning_of, is_earlier_work, is_same_number, kept_partitions, plan_by, plan_of, works_of_step}
use Rattle.batch_history.specs.Walks.{job_named}
use Rattle.batch_history.specs.Works.{work_key}
use Rattle.batch_history.specs.declared.call.Entry.{Entry}
use Rattle.batch_history.specs.declared.rows.JobInstance.{JobInstance}
use Rattle.batch_history.specs.declared.rows.WorkRow.{WorkRow}
use Rattle.batch_history.proofs.Earlier.{earlier_kept, instance-found}
use Rattle.batch_history.proofs.Folds.{made, is_made, instance_made, instances_of, works_of}
use Rattle.batch_history.proofs.Owners.{InstanceOf, instances-kept}
use Rattle.batch_history.proofs.Plans.{due-all-fit, plan-searched}
use Rattle.batch_history.proofs.Told.{AllDue}
use Rattle.batch_history.proofs.WorkLists.{each-found}
use Rattle.history_laws.proofs.Claims.{IsPlaced, AllPlaced, all-placed}

or-none : (a b : Bool) → (a || b) ≡ false → (a ≡ false) × (b ≡ false)
or-none true b h = cc
or-none false b h = (refl, h)

and-off : (a b : Bool) → b ≡ false → (a && b) ≡ false
and-off true b off = off
and-off false b off = refl

-- ---- A partition without a work item is not kept

-- whether a work item names this partition of this step
abbrev names_key : WorkKey → WorkRow → Bool
names_key key row = bytes_eq row.element key.element && is_at key.partition row.partition

none-named : (works : List WorkRow) (key : WorkKey) → list_any (names_key key) works ≡ false → filter (is_of_partition key.partition) (works_of_step key.element works) ≡ []
none-named [] key none = refl
none-named (row ∷ rows) key none =
    let parts = or-none (names_key key row) (list_any (names_key key) rows) none in
    let later : filter (is_of_partition key.partition) (works_of_step key.element rows) ≡ [] = none-named rows key parts.1 in
    (elim (bytes_eq row.element key.element) as (λ b. (b && is_at key.partition row.partition) ≡ false
    → filter (is_of_partition key.partition) (cond b (row ∷ works_of_step key.element rows) (works_of_step key.element rows)) ≡ []) [
      | true ↦ λ off.
          ap (λ b. cond b (row ∷ filter (is_of_partition key.partition) (works_of_step key.element rows)) (filter (is_of_partition key.partition) (works_of_step key.element rows))) off
          ∙ later
      | false ↦ λ off. later
    ]) parts.0

-- what fails the test is not among those that pass it
failing-unlisted : (id : List ℕ) (key : WorkKey) (test : ℕ → Bool) (ps : List ℕ) → test key.partition ≡ false → has_key (map (key_of id) (filter test ps)) key ≡ false
failing-unlisted id key test [] fails = refl
failing-unlisted id key test (p ∷ ps) fails =
    let later = failing-unlisted id key test ps fails in
    (elim (test p) as (λ b. test p ≡ b → has_key (map (key_of id) (cond b (p ∷ filter test ps) (filter test ps))) key ≡ false) [
      | true ↦ λ passes.
          let off : (key.partition == p) ≡ false =
          ne_eqb key.partition p (λ same. let no : true ≡ false = sym passes ∙ (ap test (sym same) ∙ fails) in cc) in
          ap (λ b. b || has_key (map (key_of id) (filter test ps)) key) (and-off (bytes_eq key.element id) (key.partition == p) off) ∙ later
      | false ↦ λ passes. later
    ]) refl

other-unlisted : (id : List ℕ) (key : WorkKey) → bytes_eq key.element id ≡ false → (ps : List ℕ) → has_key (map (key_of id) ps) key ≡ false
other-unlisted id key off [] = refl
other-unlisted id key off (p ∷ ps) =
    ap (λ b. (b && (key.partition == p)) || has_key (map (key_of id) ps) key) off ∙ other-unlisted id key off ps

unkept-here : (works : List WorkRow) (id : List ℕ) (partitions : Option ℕ) (key : WorkKey) → key.element ≡ id → list_any (names_key key) works ≡ false
    → has_key (map (key_of id) (partitions_kept partitions (works_of_step id works))) key ≡ false
unkept-here works id None key same none = refl
unkept-here works id (Some n) key same none =
    let these : List WorkRow = works_of_step id works in
    failing-unlisted id key (is_kept_after (done_executions n these) these) (numbers_to n)
    (ap (λ (rows : List WorkRow). is_completed_after (done_executions n these) (last_or None rows))
    (ap (λ i. filter (is_of_partition key.partition) (works_of_step i works)) (sym same) ∙ none-named works key none))

unkept-step : (works : List WorkRow) (key : WorkKey) → list_any (names_key key) works ≡ false → (s : JobStep) → has_key (kept_partitions works s) key ≡ false
unkept-step works key none s =
    (elim (bytes_eq key.element s.id) as (λ b. bytes_eq key.element s.id ≡ b → has_key (kept_partitions works s) key ≡ false) [
      | true ↦ λ same. unkept-here works s.id s.step.partitions key ((bytes_decides key.element s.id).0 same) none
      | false ↦ λ off. other-unlisted s.id key off (partitions_kept s.step.partitions (works_of_step s.id works))
    ]) refl

unkept-steps : (works : List WorkRow) (key : WorkKey) → list_any (names_key key) works ≡ false → (steps : List JobStep) → has_key (flat_map (kept_partitions works) steps) key ≡ false
unkept-steps works key none [] = refl
unkept-steps works key none (s ∷ steps) =
    list_any-append (is_same_key key) (kept_partitions works s) (flat_map (kept_partitions works) steps)
    ∙ (ap (λ b. b || has_key (flat_map (kept_partitions works) steps) key) (unkept-step works key none s) ∙ unkept-steps works key none steps)

unkept-by : (from : List ℕ) (works : List WorkRow) (job : Option JobTree) (key : WorkKey) → list_any (names_key key) works ≡ false → is_kept (plan_by from works job) key ≡ false
unkept-by from works None key none = refl
unkept-by from works (Some job) key none = unkept-steps works key none (all_steps job.elements)

-- ---- Work items of a step that is not partitioned

at-some : (p : ℕ) (o : Option ℕ) → is_at p o ≡ true → o ≡ Some p
at-some p None h = cc
at-some p (Some q) h = ap Some (eqb-true q p h)

-- job executions of one job instance are of one job
same-job : (past : List Entry) (one two : Made) → InstanceOf past one → InstanceOf past two → one.instance ≡ two.instance → one.job ≡ two.job
same-job past one two first second same =
    let both : Some first.instance ≡ Some second.instance =
    sym first.found ∙ (ap (λ n. find (λ (i : JobInstance). i.instance == n) (instances_of past)) same ∙ second.found) in
    let here : first.instance ≡ second.instance = cc in
    sym first.job ∙ (ap (λ (i : JobInstance). i.job) here ∙ second.job)

unnamed : (catalogue : List JobTree) (past : List Entry) (m : Made) (key : WorkKey) → find (is_made m.execution) (made past) ≡ Some m → Each (InstanceOf past) (made past)
    → partitions_of_job (job_named catalogue m.job) key ≡ None → (row : WorkRow) → IsPlaced catalogue past row
    → is_earlier_work (instance_made (made past)) m.execution row ≡ true → names_key key row ≡ true → true ≡ false
unnamed catalogue past m key found instances none row placed earlier names =
    let parts = and_parts (bytes_eq row.element key.element) (is_at key.partition row.partition) names in
    let element : row.element ≡ key.element = (bytes_decides row.element key.element).0 parts.0 in
    let partition : row.partition ≡ Some key.partition = at-some key.partition row.partition parts.1 in
    let keyed : work_key row ≡ key =
    ap (λ e. record { element = e; partition = unwrap_or row.partition 0 }) element ∙ ap (λ o. record { element = key.element; partition = unwrap_or o 0 }) partition in
    let own = (and_parts (nat_lt row.execution m.execution) (is_same_number (instance_made (made past) m.execution) (instance_made (made past) row.execution)) earlier).1 in
    let number : is_same_number (Some m.instance) (Some placed.one.instance) ≡ true =
    ap (λ o. is_same_number o (Some placed.one.instance)) (sym (instance-found past m.execution m found))
    ∙ (ap (is_same_number (instance_made (made past) m.execution)) (sym (instance-found past row.execution placed.one placed.found)) ∙ own) in
    let job : placed.one.job ≡ m.job =
    same-job past placed.one m (each-found (InstanceOf past) (is_made row.execution) (made past) placed.one instances placed.found)
    (each-found (InstanceOf past) (is_made m.execution) (made past) m instances found) (eqb-true placed.one.instance m.instance number) in
    let named : Some key.partition ≡ None =
    sym partition
    ∙ (placed.partition
    ∙ (ap (λ (k : WorkKey). partition_named k.partition (partitions_of_job (job_named catalogue placed.one.job) k)) keyed
    ∙ (ap (λ j. partition_named key.partition (partitions_of_job (job_named catalogue j) key)) job ∙ ap (partition_named key.partition) none))) in
    cc

none-earlier : (catalogue : List JobTree) (past : List Entry) (m : Made) (key : WorkKey) → find (is_made m.execution) (made past) ≡ Some m → Each (InstanceOf past) (made past)
    → partitions_of_job (job_named catalogue m.job) key ≡ None → (rows : List WorkRow) → AllPlaced catalogue past rows
    → list_any (names_key key) (filter (is_earlier_work (instance_made (made past)) m.execution) rows) ≡ false
none-earlier catalogue past m key found instances none [] placed = refl
none-earlier catalogue past m key found instances none (row ∷ rows) placed =
    let rest : List WorkRow = filter (is_earlier_work (instance_made (made past)) m.execution) rows in
    let later : list_any (names_key key) rest ≡ false = none-earlier catalogue past m key found instances none rows placed.1 in
    (elim (is_earlier_work (instance_made (made past)) m.execution row) as (λ b. is_earlier_work (instance_made (made past)) m.execution row ≡ b
    → list_any (names_key key) (cond b (row ∷ rest) rest) ≡ false) [
      | true ↦ λ earlier.
          (elim (names_key key row) as (λ b. names_key key row ≡ b → (b || list_any (names_key key) rest) ≡ false) [
            | true ↦ λ names. unnamed catalogue past m key found instances none row placed.0 earlier names
            | false ↦ λ names. later
          ]) refl
      | false ↦ λ earlier. later
    ]) refl

-- the plan of a job execution keeps no work key of a step that is not partitioned
pub unpartitioned-unkept : (limit : ℕ) (catalogue : List JobTree) (past : List Entry) → AllDue limit catalogue past → (m : Made) → find (is_made m.execution) (made past) ≡ Some m
    → (key : WorkKey) → partitions_of_job (job_named catalogue m.job) key ≡ None → is_kept (plan_of catalogue past m.execution) key ≡ false
unpartitioned-unkept limit catalogue past due m found key none =
    let from : List ℕ = beginning_of catalogue past m.execution in
    ap (λ (p : Plan). is_kept p key) (plan-searched catalogue past m.execution m from (due-all-fit limit catalogue past due) found)
    ∙ unkept-by from (earlier_kept past m.execution) (job_named catalogue m.job) key
    (none-earlier catalogue past m key found (instances-kept limit catalogue past due) none (works_of past) (all-placed limit catalogue past due))

-- so a work key that is of no kept partition is not kept
pub keeps-none : (plan : Plan) (partitions : Option ℕ) (key : WorkKey) → keeps_partition plan partitions key ≡ false → (partitions ≡ None → is_kept plan key ≡ false)
    → is_kept plan key ≡ false
keeps-none plan None key h none = none refl
keeps-none plan (Some count) key h none = h
