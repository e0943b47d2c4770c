-- Every job execution is of a job instance that was begun, with its job.
use Rattle.std.proofs.Common.{◌≡◌, ℕ, ◌+◌, ◌==◌, ◌≤◌, Bool, true, false, cond, Some, is_some, Ok, Err, List, [], ◌∷◌, ◌++◌, length, find, refl, sym, ◌∙◌, ap, subst, arith}
use Rattle.std.proofs.lemmas.Bool.{eqb-true, eq-eqb, ne_eqb}
use Rattle.batch_ids.specs.Parameters.{Pair}
use Rattle.batch_ids.specs.declared.refusal.Refusal.TheVariants.{JobStartException}
use Rattle.jsl_model.specs.Jobs.{JobTree}
use Rattle.batch_history.specs.Lists.{Each}
use Rattle.batch_history.specs.NextRows.{instances_after}
use Rattle.batch_history.specs.declared.call.Call.{Call}
use Rattle.batch_history.specs.declared.call.Call.TheVariants.{Start, Restart, Stop, Abandon, Claim, Checkpoint, Finish, Lose, Purge}
use Rattle.batch_history.specs.declared.call.Reply.{Reply}
use Rattle.batch_history.specs.declared.call.Reply.TheVariants.{Execution as IsExecution}
use Rattle.batch_history.specs.declared.call.Entry.{Entry}
use Rattle.batch_history.specs.declared.rows.ExecutionRow.{ExecutionRow}
use Rattle.batch_history.specs.declared.rows.JobInstance.{JobInstance}
use Rattle.batch_history.proofs.Folds.{made, is_made, remade, instances_of, folded_rows}
use Rattle.batch_history.specs.Executions.{Made}
use Rattle.batch_history.specs.Replies.{accepted, is_execution}
use Rattle.batch_history.specs.Rows.{Rows}
use Rattle.batch_history.specs.Walks.{job_named}
use Rattle.batch_history.proofs.Finding.{found-passes}
use Rattle.batch_history.proofs.WorkLists.{each-map, each-append, each-found, found-before}
use Rattle.batch_history.proofs.Told.{Due, AllDue, IsRowOf, row-of, ToldRestart, restart-told}

abbrev is_instance : ℕ → JobInstance → Bool
is_instance n i = i.instance == n

-- a job execution and its job instance
pub record InstanceOf (past : List Entry) (m : Made) : Type 0 where
  pub instance : JobInstance
  pub found : find (is_instance m.instance) (instances_of past) ≡ Some instance
  pub job : instance.job ≡ m.job

-- job instances are numbered from one on
abbrev pub AreBegun : ℕ → List JobInstance → Type 0
AreBegun k [] = Unit {0}
AreBegun k (i ∷ is) = (i.instance ≡ k) × AreBegun (k + 1) is

begun-append : (k : ℕ) (is : List JobInstance) (i : JobInstance) → AreBegun k is → i.instance ≡ length is + k → AreBegun k (is ++ i ∷ [])
begun-append k [] i h e = (omega (arith, e), tt)
begun-append k (j ∷ js) i h e = (h.0, begun-append (k + 1) js i h.1 (omega (arith, e)))

begun-call : (call : Call) (is : List JobInstance) → AreBegun 1 is → AreBegun 1 (instances_after (length is + 1) call is)
begun-call (Start job parameters) is h = begun-append 1 is _ h refl
begun-call (Restart y parameters) is h = h
begun-call (Stop y) is h = h
begun-call (Abandon y) is h = h
begun-call Claim is h = h
begun-call (Checkpoint w mark step) is h = h
begun-call (Finish w o t step) is h = h
begun-call (Lose w) is h = h
begun-call (Purge i) is h = h

pub begun : (past : List Entry) → AreBegun 1 (instances_of past)
begun [] = tt
begun (e ∷ older) = begun-call e.call (instances_of older) (begun older)

find-new : (n k : ℕ) (is : List JobInstance) (new : JobInstance) → AreBegun k is → length is + k ≤ n → new.instance ≡ n → find (is_instance n) (is ++ new ∷ []) ≡ Some new
find-new n k [] new h le e = let here : (new.instance == n) ≡ true = eq-eqb new.instance n e in rw here refl
find-new n k (i ∷ is) new h le e =
    let off : (i.instance == n) ≡ false = ne_eqb i.instance n (λ same. omega (arith, h.0, same)) in
    rw off (find-new n (k + 1) is new h.1 (omega arith) e)

-- a restart that is accepted names a job execution that was made
pub restarted : (limit : ℕ) (catalogue : List JobTree) (older : List Entry) (who at y : ℕ) (parameters : List Pair) (reply : Reply)
    → Due limit catalogue older record { who = who; call = Restart y parameters; at = at; reply = reply } → (m : Made) × (find (is_made y) (made older) ≡ Some m)
restarted limit catalogue older who at y parameters reply due =
    let r : Rows = folded_rows catalogue older in
    let told : ToldRestart r y = restart-told limit r y reply due.0 in
    let from : IsRowOf catalogue older told.row = row-of catalogue older (is_execution y) told.row told.found in
    let number : told.row.execution ≡ y = eqb-true told.row.execution y (found-passes (is_execution y) r.executions told.row told.found) in
    let same : from.one.execution ≡ y = sym (ap (λ (row : ExecutionRow). row.execution) from.is_row) ∙ number in
    (from.one, subst (λ x. find (is_made x) (made older) ≡ Some from.one) same from.found)

instance-call : (limit : ℕ) (catalogue : List JobTree) (older : List Entry) (who at : ℕ) (call : Call) (reply : Reply)
    → Due limit catalogue older record { who = who; call = call; at = at; reply = reply } → Each (InstanceOf older) (made older)
    → Each (InstanceOf (record { who = who; call = call; at = at; reply = reply } ∷ older)) (made (record { who = who; call = call; at = at; reply = reply } ∷ older))
instance-call limit catalogue older who at (Start job parameters) reply due h =
    let e : Entry = record { who = who; call = Start job parameters; at = at; reply = reply } in
    let new : JobInstance = record { instance = length (instances_of older) + 1; job = job } in
    each-append (InstanceOf (e ∷ older)) (made older) _
    (each-map (InstanceOf older) (InstanceOf (e ∷ older)) (made older)
    (λ m i. record { instance = i.instance; found = found-before (is_instance m.instance) (instances_of older) (new ∷ []) i.instance i.found; job = i.job }) h)
    (record { instance = new; found = find-new (length (instances_of older) + 1) 1 (instances_of older) new (begun older) (omega arith) refl; job = refl })
instance-call limit catalogue older who at (Restart y parameters) reply due h =
    let e : Entry = record { who = who; call = Restart y parameters; at = at; reply = reply } in
    let named = restarted limit catalogue older who at y parameters reply due in
    let i : InstanceOf older named.0 = each-found (InstanceOf older) (is_made y) (made older) named.0 h named.1 in
    each-append (InstanceOf (e ∷ older)) (made older) _
    (each-map (InstanceOf older) (InstanceOf (e ∷ older)) (made older) (λ m j. record { instance = j.instance; found = j.found; job = j.job }) h)
    (subst (λ o. InstanceOf (e ∷ older) (remade (length (made older) + 1) parameters at o)) (sym named.1)
    (record { instance = i.instance; found = i.found; job = i.job }))
instance-call limit catalogue older who at (Stop y) reply due h = each-map (InstanceOf older) _ (made older) (λ m j. record { instance = j.instance; found = j.found; job = j.job }) h
instance-call limit catalogue older who at (Abandon y) reply due h = each-map (InstanceOf older) _ (made older) (λ m j. record { instance = j.instance; found = j.found; job = j.job }) h
instance-call limit catalogue older who at Claim reply due h = each-map (InstanceOf older) _ (made older) (λ m j. record { instance = j.instance; found = j.found; job = j.job }) h
instance-call limit catalogue older who at (Checkpoint w mark step) reply due h = each-map (InstanceOf older) _ (made older) (λ m j. record { instance = j.instance; found = j.found; job = j.job }) h
instance-call limit catalogue older who at (Finish w o t step) reply due h = each-map (InstanceOf older) _ (made older) (λ m j. record { instance = j.instance; found = j.found; job = j.job }) h
instance-call limit catalogue older who at (Lose w) reply due h = each-map (InstanceOf older) _ (made older) (λ m j. record { instance = j.instance; found = j.found; job = j.job }) h
instance-call limit catalogue older who at (Purge i) reply due h = each-map (InstanceOf older) _ (made older) (λ m j. record { instance = j.instance; found = j.found; job = j.job }) h

pub instances-kept : (limit : ℕ) (catalogue : List JobTree) (past : List Entry) → AllDue limit catalogue past → Each (InstanceOf past) (made past)
instances-kept limit catalogue [] due = tt
instances-kept limit catalogue (e ∷ older) due =
    instance-call limit catalogue older e.who e.at e.call e.reply due.0 (instances-kept limit catalogue older due.1)

-- ---- Jobs

-- the job of a job execution is in the catalogue
abbrev pub JobIsThere : List JobTree → Made → Type 0
JobIsThere catalogue m = is_some (job_named catalogue m.job) ≡ true

-- a start that is accepted is of a job of the catalogue
started-there : (b : Bool) (limit count : ℕ) (reply given : Reply) → cond b (accepted limit count reply) (Err JobStartException) ≡ Ok given → b ≡ true
started-there true limit count reply given e = refl
started-there false limit count reply given e = cc

job-call : (limit : ℕ) (catalogue : List JobTree) (older : List Entry) (who at : ℕ) (call : Call) (reply : Reply)
    → Due limit catalogue older record { who = who; call = call; at = at; reply = reply } → Each (JobIsThere catalogue) (made older)
    → Each (JobIsThere catalogue) (made (record { who = who; call = call; at = at; reply = reply } ∷ older))
job-call limit catalogue older who at (Start job parameters) reply due h =
    each-append (JobIsThere catalogue) (made older) _ h
    (started-there (is_some (job_named catalogue job)) limit (length older) (IsExecution (length (made older) + 1)) reply due.0)
job-call limit catalogue older who at (Restart y parameters) reply due h =
    let named = restarted limit catalogue older who at y parameters reply due in
    each-append (JobIsThere catalogue) (made older) _ h
    (subst (λ o. JobIsThere catalogue (remade (length (made older) + 1) parameters at o)) (sym named.1)
    (each-found (JobIsThere catalogue) (is_made y) (made older) named.0 h named.1))
job-call limit catalogue older who at (Stop y) reply due h = h
job-call limit catalogue older who at (Abandon y) reply due h = h
job-call limit catalogue older who at Claim reply due h = h
job-call limit catalogue older who at (Checkpoint w mark step) reply due h = h
job-call limit catalogue older who at (Finish w o t step) reply due h = h
job-call limit catalogue older who at (Lose w) reply due h = h
job-call limit catalogue older who at (Purge i) reply due h = h

pub jobs-kept : (limit : ℕ) (catalogue : List JobTree) (past : List Entry) → AllDue limit catalogue past → Each (JobIsThere catalogue) (made past)
jobs-kept limit catalogue [] due = tt
jobs-kept limit catalogue (e ∷ older) due = job-call limit catalogue older e.who e.at e.call e.reply due.0 (jobs-kept limit catalogue older due.1)
