-- The plan of a job execution: what the searches find at any later moment is what it was when the job execution was made.
use mathlib.Core.Path.{fun_ext}
use Rattle.std.proofs.Common.{◌≡◌, ℕ, ◌+◌, ◌==◌, ◌&&◌, ◌||◌, ◌<◌, Bool, true, false, cond, nat_lt, nat_le, Option, None, Some, is_some, List, [], ◌∷◌, ◌++◌, length, map, find, filter, filter_map, refl, sym, ◌∙◌, ap, subst, arith}
use Rattle.std.specs.Option.{option_map}
use Rattle.std.proofs.lemmas.List.{append_assoc}
use Rattle.std.proofs.lemmas.Bool.{ne_eqb, lt-ltb, le-ltb, leb-true}
use Rattle.jsl_model.specs.Jobs.{JobTree}
use Rattle.walk_rules.specs.declared.facts.Value.{Value}
use Rattle.job_plans.specs.declared.plan.Plan.{Plan}
use Rattle.batch_history.specs.declared.call.Call.{Call}
use Rattle.batch_history.specs.declared.call.Call.TheVariants.{Start, Restart, Stop, Abandon, Claim, Checkpoint, Finish, Lose, Purge}
use Rattle.batch_history.specs.declared.call.Reply.{Reply}
use Rattle.batch_history.specs.declared.call.Entry.{Entry}
use Rattle.batch_history.specs.declared.rows.ExecutionRow.{ExecutionRow}
use Rattle.batch_history.specs.declared.rows.WorkRow.{WorkRow}
use Rattle.batch_history.specs.Executions.{Made, Origin, origin_of, made_as, makes_job_execution}
use Rattle.batch_history.specs.JobSteps.{JobStep, all_steps}
use Rattle.batch_history.specs.Lists.{is_at}
use Rattle.batch_history.specs.Moments.{first_moment, start_moment}
use Rattle.batch_history.specs.Operations.{effects, taken_up_by}
use Rattle.batch_history.specs.Partitions.{is_kept_after, partitions_kept}
use Rattle.walk_rules.specs.Keys.{numbers_to}
use Rattle.std.specs.List.{flat_map}
use Rattle.batch_history.specs.Restarts.{exit_carried, kept_partitions, starts_of, is_same_number, is_earlier_work, carried_step, is_barred, plan_by, first_plan, restart_point, is_taken_up, job_of_origin, plan_from, walk_from, beginning_by_making, beginning_among, plan_of}
use Rattle.batch_history.specs.Rows.{IsAsBefore}
use Rattle.batch_history.specs.Statuses.{is_finished}
use Rattle.batch_history.specs.Walks.{facts_by_work, first_of_job, job_named, walk_of, walk_value}
use Rattle.batch_history.specs.Works.{work_items}
use Rattle.batch_history.proofs.Earlier.{filter-same, filter-none, earlier_kept, instance-found, earlier-stays, known-stays}
use Rattle.batch_history.proofs.Finished.{finished-stays, made-after, on-it}
use Rattle.batch_history.proofs.Folds.{made, makes, is_made, remade, instances_of, works_of, start_of, bare_of, folded_rows, execution_row, instance_made, instance_works, plan_again, plan_made, plan_kept}
use Rattle.batch_history.proofs.Items.{works-law}
use Rattle.batch_history.proofs.Kept.{IsHeld, kept}
use Rattle.batch_history.proofs.Knowing.{facts-same}
use Rattle.batch_history.proofs.Origins.{making, origin-law, instance-law}
use Rattle.batch_history.proofs.Pasts.{AllFit, due-fits}
use Rattle.batch_history.proofs.Singles.{found-last, made-in-begun, Restarted, restarted-one, makes-number}
use Rattle.batch_history.proofs.Stepping.{numbered}
use Rattle.batch_history.proofs.Times.{start-law}
use Rattle.batch_history.proofs.Told.{AllDue, made-among, made-before, made-more, made-number, restart-told}
use Rattle.batch_history.proofs.WorkLists.{each-map}

-- ---- A past whose replies were due

pub due-all-fit : (limit : ℕ) (catalogue : List JobTree) (past : List Entry) → AllDue limit catalogue past → AllFit past
due-all-fit limit catalogue [] due = tt
due-all-fit limit catalogue (e ∷ older) due =
    (due-fits limit catalogue older e.who e.call e.reply due.0.0, due-all-fit limit catalogue older due.1)

pub due-rest : (limit : ℕ) (catalogue : List JobTree) (more past : List Entry) → AllDue limit catalogue (more ++ past) → AllDue limit catalogue past
due-rest limit catalogue [] past due = due
due-rest limit catalogue (e ∷ more) past due = due-rest limit catalogue more past due.1

-- ---- Plans

plan-begins : (from : List ℕ) (earlier : List WorkRow) (job : Option JobTree) → (plan_by from earlier job).from ≡ from
plan-begins from earlier None = refl
plan-begins from earlier (Some tree) = refl

-- nothing was completed by no work
never-carried : (partitions : Option ℕ) → exit_carried partitions [] ≡ None
never-carried None = refl
never-carried (Some n) = refl

never-completed : (numbers : List ℕ) → filter (is_kept_after [] []) numbers ≡ []
never-completed [] = refl
never-completed (p ∷ numbers) = never-completed numbers

never-kept : (partitions : Option ℕ) → partitions_kept partitions [] ≡ []
never-kept None = refl
never-kept (Some n) = never-completed (numbers_to n)

none-carried : (steps : List JobStep) → filter_map (carried_step []) steps ≡ []
none-carried [] = refl
none-carried (s ∷ rest) =
    (elim s.step.allow_start_if_complete as (λ b. s.step.allow_start_if_complete ≡ b → filter_map (carried_step []) (s ∷ rest) ≡ []) [
      | true ↦ λ is. rw is (none-carried rest)
      | false ↦ λ is. rw is (rw (never-carried s.step.partitions) (none-carried rest))
    ]) refl

none-kept : (steps : List JobStep) → flat_map (kept_partitions []) steps ≡ []
none-kept [] = refl
none-kept (s ∷ rest) = rw (never-kept s.step.partitions) (none-kept rest)

both-false : (a b : Bool) → (b ≡ true → a ≡ false) → (a && b) ≡ false
both-false a true h = ap (λ c. c && true) (h refl)
both-false true false h = refl
both-false false false h = refl

never-barred : (n : ℕ) → (nat_lt 0 n && nat_le n 0) ≡ false
never-barred n = both-false (nat_lt 0 n) (nat_le n 0) (λ le. le-ltb 0 n (leb-true n 0 le))

never-started : (n : ℕ) (partitions : Option ℕ) → (nat_lt 0 n && nat_le n (starts_of partitions [])) ≡ false
never-started n None = never-barred n
never-started n (Some k) = never-barred n

none-barred : (steps : List JobStep) → filter (is_barred []) steps ≡ []
none-barred [] = refl
none-barred (s ∷ rest) = ap (λ b. cond b (s ∷ filter (is_barred []) rest) (filter (is_barred []) rest)) (never-started s.step.start_limit s.step.partitions) ∙ none-barred rest

-- without earlier work it is that of a first job execution
plan-first : (job : Option JobTree) → plan_by (first_of_job job) [] job ≡ first_plan job
plan-first None = refl
plan-first (Some tree) =
    let from : List ℕ = first_of_job (Some tree) in
    let steps : List JobStep = all_steps tree.elements in
    ap (λ c. record { from = from; carried = c; kept = flat_map (kept_partitions []) steps; barred = map (λ (s : JobStep). s.id) (filter (is_barred []) steps) }) (none-carried steps)
    ∙ (ap (λ k. record { from = from; carried = []; kept = k; barred = map (λ (s : JobStep). s.id) (filter (is_barred []) steps) }) (none-kept steps)
    ∙ ap (λ (b : List JobStep). record { from = from; carried = []; kept = []; barred = map (λ (s : JobStep). s.id) b }) (none-barred steps))

-- ---- Searches and folds

-- where a job execution that was made comes from
pub record CameFrom (past : List Entry) (x : ℕ) (m : Made) : Type 0 where
  pub origin : Origin
  pub is : origin_of past x ≡ Some origin
  pub same : made_as x origin ≡ m

came : (past : List Entry) (x : ℕ) (m : Made) (o : Option Origin) → origin_of past x ≡ o → find (is_made x) (made past) ≡ option_map (made_as x) o
    → find (is_made x) (made past) ≡ Some m → CameFrom past x m
came past x m None is law found = let bad : Some m ≡ None = sym found ∙ law in cc
came past x m (Some o) is law found = let both : Some (made_as x o) ≡ Some m = sym law ∙ found in record { origin = o; is = is; same = cc }

pub came-from : (past : List Entry) (x : ℕ) (m : Made) → AllFit past → find (is_made x) (made past) ≡ Some m → CameFrom past x m
came-from past x m fits found = came past x m (origin_of past x) refl (origin-law past fits x) found

-- the job that is searched for is its job
found-job : (catalogue : List JobTree) (past : List Entry) (x : ℕ) (m : Made) → AllFit past → find (is_made x) (made past) ≡ Some m
    → job_of_origin catalogue (origin_of past x) ≡ job_named catalogue m.job
found-job catalogue past x m fits found =
    let c : CameFrom past x m = came-from past x m fits found in
    ap (job_of_origin catalogue) c.is ∙ ap (λ (k : Made). job_named catalogue k.job) c.same

-- the plan by searches is that by what the fold has
pub plan-searched : (catalogue : List JobTree) (past : List Entry) (x : ℕ) (m : Made) (from : List ℕ) → AllFit past → find (is_made x) (made past) ≡ Some m
    → plan_from catalogue past x from ≡ plan_by from (earlier_kept past x) (job_named catalogue m.job)
plan-searched catalogue past x m from fits found =
    ap (λ (instance : ℕ → Option ℕ). plan_by from (filter (is_earlier_work instance x) (work_items past)) (job_of_origin catalogue (origin_of past x)))
    (sym (fun_ext (instance-law past fits)))
    ∙ (ap (λ (works : List WorkRow). plan_by from (filter (is_earlier_work (instance_made (made past)) x) works) (job_of_origin catalogue (origin_of past x))) (works-law past fits)
    ∙ ap (plan_by from (earlier_kept past x)) (found-job catalogue past x m fits found))

-- it is taken up where it has a start
taken-some : (o : Option ℕ) (b : Bool) (at : ℕ) → is_some (first_moment o b at) ≡ (b || is_some o)
taken-some (Some t) true at = refl
taken-some (Some t) false at = refl
taken-some None true at = refl
taken-some None false at = refl

taken-law : (past : List Entry) (x : ℕ) → is_taken_up past x ≡ is_some (start_moment past x)
taken-law [] x = refl
taken-law (e ∷ older) x =
    ap (λ b. is_at x (taken_up_by e.reply) || b) (taken-law older x) ∙ sym (taken-some (start_moment older x) (is_at x (taken_up_by e.reply)) e.at)

-- ---- When a job execution is made

in-order : (y x : ℕ) (own other : Option ℕ) (i : ℕ) → y < x → own ≡ Some i → (nat_lt y x && is_same_number own other) ≡ is_at i other
in-order y x own other i lt is = rw is (rw (lt-ltb y x lt) refl)

-- all work of the job instance is of earlier job executions
earlier-restarted : (limit : ℕ) (catalogue : List JobTree) (older : List Entry) (e : Entry) (x : ℕ) (m : Made) → AllDue limit catalogue older
    → works_of (e ∷ older) ≡ works_of older → x ≡ length (made older) + 1 → find (is_made x) (made (e ∷ older)) ≡ Some m
    → ((y : ℕ) (n : Made) → find (is_made y) (made older) ≡ Some n → find (is_made y) (made (e ∷ older)) ≡ Some n)
    → earlier_kept (e ∷ older) x ≡ instance_works older m.instance
earlier-restarted limit catalogue older e x m due same number found more =
    rw same (filter-same (is_earlier_work (instance_made (made (e ∷ older))) x) (λ (work : WorkRow). is_at m.instance (instance_made (made older) work.execution)) (works_of older)
    (each-map (IsHeld catalogue older) (λ (r : WorkRow). is_earlier_work (instance_made (made (e ∷ older))) x r ≡ is_at m.instance (instance_made (made older) r.execution)) (works_of older)
    (λ r h.
    in-order r.execution x (instance_made (made (e ∷ older)) x) (instance_made (made (e ∷ older)) r.execution) m.instance
    (omega (arith, number, made-among r.execution 1 (made older) h.one (numbered older) h.found)) (instance-found (e ∷ older) x m found)
    ∙ ap (is_at m.instance) (instance-found (e ∷ older) r.execution h.one (more r.execution h.one h.found) ∙ sym (instance-found older r.execution h.one h.found)))
    (kept limit catalogue older due).held))

other-number : (j i : ℕ) → j < i → (j == i) ≡ false
other-number j i lt = ne_eqb j i (λ e. omega (arith, lt, e))

-- a job instance that is new has no work
no-work : (limit : ℕ) (catalogue : List JobTree) (older : List Entry) (i : ℕ) → AllDue limit catalogue older → length (instances_of older) < i → instance_works older i ≡ []
no-work limit catalogue older i due lt =
    filter-none (λ (work : WorkRow). is_at i (instance_made (made older) work.execution)) (works_of older)
    (each-map (IsHeld catalogue older) (λ (r : WorkRow). is_at i (instance_made (made older) r.execution) ≡ false) (works_of older)
    (λ r h.
    let number : h.one.execution ≡ r.execution = made-number r.execution older h.one h.found in
    let found : find (is_made h.one.execution) (made older) ≡ Some h.one = subst (λ y. find (is_made y) (made older) ≡ Some h.one) (sym number) h.found in
    ap (is_at i) (instance-found older r.execution h.one h.found)
    ∙ other-number h.one.instance i (omega (arith, lt, made-in-begun limit catalogue older h.one due found)))
    (kept limit catalogue older due).held)

-- ---- The plan that is searched for is the one that was kept

-- what is claimed of a job execution that some older entries made
abbrev IsPlanKept : List JobTree → List Entry → List Entry → ℕ → Made → Type 0
IsPlanKept catalogue past older x m =
    plan_by (beginning_among catalogue past older x) (earlier_kept past x) (job_named catalogue m.job) ≡ plan_kept catalogue older x

-- the same values stand in both restart points
same-point : (a b : Bool) (v w : Value) (f g : List ℕ) → a ≡ b → v ≡ w → f ≡ g → restart_point a v f ≡ restart_point b w g
same-point a b v w f g p q r = ap (λ x. restart_point x v f) p ∙ (ap (λ x. restart_point b x f) q ∙ ap (λ x. restart_point b w x) r)

-- where a job execution begins that a call makes, by what its making says
abbrev beginning : List JobTree → List Entry → List Entry → Call → List ℕ
beginning catalogue past older call = beginning_by_making catalogue past (beginning_among catalogue past older) (effects call).makes

-- the restart point of a job execution that is over, found later
point-kept : (limit : ℕ) (catalogue : List JobTree) (past more older : List Entry) (e : Entry) (one : Made) → past ≡ more ++ (e ∷ older) → AllDue limit catalogue past
    → find (is_made one.execution) (made older) ≡ Some one → is_finished (bare_of catalogue older one) ≡ true
    → IsPlanKept catalogue past older one.execution one
    → restart_point (is_taken_up past one.execution) (walk_from catalogue past one.execution (beginning_among catalogue past older one.execution))
    (beginning_among catalogue past older one.execution)
    ≡ restart_point (is_some (start_of older one.execution))
    (walk_value catalogue (works_of older) one.execution one.job (plan_kept catalogue older one.execution)) (plan_kept catalogue older one.execution).from
point-kept limit catalogue past more older e one cut due found over before =
    let y : ℕ = one.execution in
    let b : List ℕ = beginning_among catalogue past older y in
    let plan : Plan = plan_kept catalogue older y in
    let fits : AllFit past = due-all-fit limit catalogue past due in
    let longer : past ≡ (more ++ e ∷ []) ++ older = cut ∙ sym (append_assoc more (e ∷ []) older) in
    let due_longer : AllDue limit catalogue ((more ++ e ∷ []) ++ older) = subst (AllDue limit catalogue) longer due in
    let there : find (is_made y) (made past) ≡ Some one =
    subst (λ (p : List Entry). find (is_made y) (made p) ≡ Some one) (sym longer) (made-after (more ++ e ∷ []) older y one found) in
    let stays : IsAsBefore (execution_row catalogue older one) (execution_row catalogue past one) =
    subst (λ (p : List Entry). IsAsBefore (execution_row catalogue older one) (execution_row catalogue p one)) (sym longer)
    (finished-stays limit catalogue (more ++ e ∷ []) older one due_longer found over) in
    let starts : start_of past y ≡ start_of older y = ap (λ (row : ExecutionRow). row.start) stays in
    let taken : is_taken_up past y ≡ is_some (start_of older y) = taken-law past y ∙ (ap is_some (start-law past fits y) ∙ ap is_some starts) in
    let planned : plan_from catalogue past y b ≡ plan = plan-searched catalogue past y one b fits there ∙ before in
    let known : facts_by_work y (works_of past) ≡ facts_by_work y (works_of older) =
    subst (λ (p : List Entry). facts_by_work y (works_of p) ≡ facts_by_work y (works_of older)) (sym longer)
    (facts-same y _ _ (known-stays limit catalogue (more ++ e ∷ []) older one due_longer found over)) in
    let walk : walk_from catalogue past y b ≡ walk_value catalogue (works_of older) y one.job plan =
    ap (λ p. walk_of p (facts_by_work y (work_items past)) (job_of_origin catalogue (origin_of past y))) planned
    ∙ (ap (λ (works : List WorkRow). walk_of plan (facts_by_work y works) (job_of_origin catalogue (origin_of past y))) (works-law past fits)
    ∙ (ap (λ f. walk_of plan f (job_of_origin catalogue (origin_of past y))) known
    ∙ ap (walk_of plan (facts_by_work y (works_of older))) (found-job catalogue past y one fits there))) in
    let from : b ≡ plan.from = sym (plan-begins b (earlier_kept past y) (job_named catalogue one.job)) ∙ ap (λ (p : Plan). p.from) before in
    same-point _ _ _ _ _ _ taken walk from

-- the plan of a job execution that a call makes
made-planned : (limit : ℕ) (catalogue : List JobTree) (past more older : List Entry) (who at : ℕ) (call : Call) (reply : Reply) (x : ℕ) (m : Made)
    → past ≡ more ++ (record { who = who; call = call; at = at; reply = reply } ∷ older) → AllDue limit catalogue past
    → ((y : ℕ) (n : Made) → find (is_made y) (made older) ≡ Some n → IsPlanKept catalogue past older y n)
    → makes (length (made older)) x call ≡ true → find (is_made x) (made (record { who = who; call = call; at = at; reply = reply } ∷ older)) ≡ Some m
    → plan_by (beginning catalogue past older call) (earlier_kept past x) (job_named catalogue m.job) ≡ plan_made catalogue older (plan_kept catalogue older) call
made-planned limit catalogue past more older who at (Start job parameters) reply x m cut due before new found =
    let e : Entry = record { who = who; call = Start job parameters; at = at; reply = reply } in
    let due_cut : AllDue limit catalogue (more ++ (e ∷ older)) = subst (AllDue limit catalogue) cut due in
    let due_here : AllDue limit catalogue (e ∷ older) = due-rest limit catalogue more (e ∷ older) due_cut in
    let last : x ≡ length (made older) + 1 = makes-number (length (made older)) x (Start job parameters) new in
    let one = found-last x (made older) _ m (numbered older) (omega (arith, last)) found in
    let its_job : job ≡ m.job = ap (λ (k : Made). k.job) one in
    let its_instance : length (instances_of older) + 1 ≡ m.instance = ap (λ (k : Made). k.instance) one in
    let number : m.execution ≡ x = made-number x (e ∷ older) m found in
    let there : find (is_made m.execution) (made (e ∷ older)) ≡ Some m = subst (λ y. find (is_made y) (made (e ∷ older)) ≡ Some m) (sym number) found in
    let stays : earlier_kept past x ≡ earlier_kept (e ∷ older) x =
    subst (λ (p : List Entry). earlier_kept p x ≡ earlier_kept (e ∷ older) x) (sym cut)
    (subst (λ y. earlier_kept (more ++ (e ∷ older)) y ≡ earlier_kept (e ∷ older) y) number (earlier-stays limit catalogue more (e ∷ older) m due_cut there)) in
    let none : earlier_kept past x ≡ [] =
    stays ∙ (earlier-restarted limit catalogue older e x m due_here.1 refl last found (λ y n h. made-more older e y n h)
    ∙ no-work limit catalogue older m.instance due_here.1 (omega (arith, its_instance))) in
    ap (λ (works : List WorkRow). plan_by (first_of_job (job_named catalogue job)) works (job_named catalogue m.job)) none
    ∙ (ap (λ j. plan_by (first_of_job (job_named catalogue job)) [] (job_named catalogue j)) (sym its_job)
    ∙ plan-first (job_named catalogue job))
made-planned limit catalogue past more older who at (Restart y parameters) reply x m cut due before new found =
    let e : Entry = record { who = who; call = Restart y parameters; at = at; reply = reply } in
    let due_cut : AllDue limit catalogue (more ++ (e ∷ older)) = subst (AllDue limit catalogue) cut due in
    let due_here : AllDue limit catalogue (e ∷ older) = due-rest limit catalogue more (e ∷ older) due_cut in
    let r : Restarted catalogue older y = restarted-one limit catalogue older y reply (restart-told limit (folded_rows catalogue older) y reply due_here.0.0) in
    let named : find (is_made y) (made older) ≡ Some r.one = subst (λ z. find (is_made z) (made older) ≡ Some r.one) r.number r.found in
    let last : x ≡ length (made older) + 1 = makes-number (length (made older)) x (Restart y parameters) new in
    let again : remade (length (made older) + 1) parameters at (find (is_made y) (made older)) ≡ m = found-last x (made older) _ m (numbered older) (omega (arith, last)) found in
    let one : remade (length (made older) + 1) parameters at (Some r.one) ≡ m = sym (ap (λ (o : Option Made). remade (length (made older) + 1) parameters at o) named) ∙ again in
    let its_job : r.one.job ≡ m.job = ap (λ (k : Made). k.job) one in
    let its_instance : r.one.instance ≡ m.instance = ap (λ (k : Made). k.instance) one in
    let number : m.execution ≡ x = made-number x (e ∷ older) m found in
    let there : find (is_made m.execution) (made (e ∷ older)) ≡ Some m = subst (λ z. find (is_made z) (made (e ∷ older)) ≡ Some m) (sym number) found in
    let stays : earlier_kept past x ≡ earlier_kept (e ∷ older) x =
    subst (λ (p : List Entry). earlier_kept p x ≡ earlier_kept (e ∷ older) x) (sym cut)
    (subst (λ z. earlier_kept (more ++ (e ∷ older)) z ≡ earlier_kept (e ∷ older) z) number (earlier-stays limit catalogue more (e ∷ older) m due_cut there)) in
    let works : earlier_kept past x ≡ instance_works older r.one.instance =
    stays ∙ (earlier-restarted limit catalogue older e x m due_here.1 refl last found (λ z n h. made-more older e z n h)
    ∙ ap (instance_works older) (sym its_instance)) in
    let kept_one : IsPlanKept catalogue past older r.one.execution r.one = before r.one.execution r.one r.found in
    let point = point-kept limit catalogue past more older e r.one cut due r.found r.over kept_one in
    let here : restart_point (is_taken_up past y) (walk_from catalogue past y (beginning_among catalogue past older y)) (beginning_among catalogue past older y)
    ≡ restart_point (is_some (start_of older r.one.execution))
    (walk_value catalogue (works_of older) r.one.execution r.one.job (plan_kept catalogue older r.one.execution)) (plan_kept catalogue older r.one.execution).from =
    subst (λ z. restart_point (is_taken_up past z) (walk_from catalogue past z (beginning_among catalogue past older z)) (beginning_among catalogue past older z)
    ≡ restart_point (is_some (start_of older r.one.execution))
    (walk_value catalogue (works_of older) r.one.execution r.one.job (plan_kept catalogue older r.one.execution)) (plan_kept catalogue older r.one.execution).from) r.number point in
    let from : List ℕ =
    restart_point (is_some (start_of older r.one.execution))
    (walk_value catalogue (works_of older) r.one.execution r.one.job (plan_kept catalogue older r.one.execution)) (plan_kept catalogue older r.one.execution).from in
    ap (λ f. plan_by f (earlier_kept past x) (job_named catalogue m.job)) here
    ∙ (ap (λ (w : List WorkRow). plan_by from w (job_named catalogue m.job)) works
    ∙ (ap (λ j. plan_by from (instance_works older r.one.instance) (job_named catalogue j)) (sym its_job)
    ∙ sym (ap (plan_again catalogue older (plan_kept catalogue older)) named)))
made-planned limit catalogue past more older who at (Stop y) reply x m cut due before new found = cc
made-planned limit catalogue past more older who at (Abandon y) reply x m cut due before new found = cc
made-planned limit catalogue past more older who at Claim reply x m cut due before new found = cc
made-planned limit catalogue past more older who at (Checkpoint w mark step) reply x m cut due before new found = cc
made-planned limit catalogue past more older who at (Finish w o t step) reply x m cut due before new found = cc
made-planned limit catalogue past more older who at (Lose w) reply x m cut due before new found = cc
made-planned limit catalogue past more older who at (Purge i) reply x m cut due before new found = cc

pub plan-among : (limit : ℕ) (catalogue : List JobTree) (past more older : List Entry) → past ≡ more ++ older → AllDue limit catalogue past
    → (x : ℕ) (m : Made) → find (is_made x) (made older) ≡ Some m → IsPlanKept catalogue past older x m
plan-among limit catalogue past more [] cut due x m found = cc
plan-among limit catalogue past more (e ∷ older) cut due x m found =
    let longer : past ≡ (more ++ e ∷ []) ++ older = cut ∙ sym (append_assoc more (e ∷ []) older) in
    let before : (y : ℕ) (n : Made) → find (is_made y) (made older) ≡ Some n → IsPlanKept catalogue past older y n =
    plan-among limit catalogue past (more ++ e ∷ []) older longer due in
    let same : makes (length (made older)) x e.call ≡ makes_job_execution older x e.call = making older x e.call in
    on-it (makes (length (made older)) x e.call)
    (λ new.
    let searched : makes_job_execution older x e.call ≡ true = sym same ∙ new in
    ap (λ c. plan_by (cond c (beginning catalogue past older e.call) (beginning_among catalogue past older x)) (earlier_kept past x) (job_named catalogue m.job)) searched
    ∙ (made-planned limit catalogue past more older e.who e.at e.call e.reply x m cut due before new found
    ∙ sym (ap (λ c. cond c (plan_made catalogue older (plan_kept catalogue older) e.call) (plan_kept catalogue older x)) new)))
    (λ old.
    let searched : makes_job_execution older x e.call ≡ false = sym same ∙ old in
    ap (λ c. plan_by (cond c (beginning catalogue past older e.call) (beginning_among catalogue past older x)) (earlier_kept past x) (job_named catalogue m.job)) searched
    ∙ (before x m (made-before older e x m old found)
    ∙ sym (ap (λ c. cond c (plan_made catalogue older (plan_kept catalogue older) e.call) (plan_kept catalogue older x)) old)))

-- THE PLAN that is searched for is the one that the fold has
pub plan-law : (limit : ℕ) (catalogue : List JobTree) (past : List Entry) (x : ℕ) (m : Made) → AllDue limit catalogue past → find (is_made x) (made past) ≡ Some m
    → plan_of catalogue past x ≡ plan_kept catalogue past x
plan-law limit catalogue past x m due found =
    plan-searched catalogue past x m (beginning_among catalogue past past x) (due-all-fit limit catalogue past due) found
    ∙ plan-among limit catalogue past [] past refl due x m found
