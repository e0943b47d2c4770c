-- What the reply that a call was due tells of the rows before it.
use Rattle.std.proofs.Common.{subst, ◌≡◌, ◌⊎◌, inl, inr, ℕ, ◌+◌, ◌==◌, ◌<◌, ◌≤◌, Bool, true, false, cond, Option, None, Some, is_some, Result, Ok, Err, List, [], ◌∷◌, ◌++◌, length, map, find, refl, sym, ◌∙◌, ap, arith}
use Rattle.std.specs.List.{list_any}
use Rattle.std.proofs.lemmas.Bool.{eqb-true, eq-eqb, ne_eqb}
use Rattle.batch_ids.specs.declared.refusal.Refusal.{Refusal}
use Rattle.batch_ids.specs.declared.refusal.Refusal.TheVariants.{JobStartException, JobExecutionNotRunningException, JobExecutionIsRunningException, JobExecutionNotMostRecentException, NoSuchJobInstanceException}
use Rattle.batch_ids.specs.declared.status.BatchStatus.{BatchStatus}
use Rattle.batch_ids.specs.declared.status.BatchStatus.TheVariants.{Starting, Started, Stopping, Stopped as IsStopped, Failed as IsFailed, Completed as IsCompleted, Abandoned}
use Rattle.batch_ids.specs.declared.status.WorkOutcome.{WorkOutcome}
use Rattle.batch_ids.specs.declared.status.WorkOutcome.TheVariants.{Completed, Failed, Stopped}
use Rattle.jsl_model.specs.Jobs.{JobTree}
use Rattle.batch_history.specs.declared.call.Call.{Call}
use Rattle.batch_history.specs.declared.call.Call.TheVariants.{Start, Restart, Stop, Abandon, Claim, Checkpoint, Finish, Lose, Purge}
use Rattle.batch_history.specs.declared.call.Reply.{Reply}
use Rattle.batch_history.specs.declared.call.Reply.TheVariants.{Execution as IsExecution, Work, Done}
use Rattle.batch_history.specs.declared.call.WorkItem.{WorkItem}
use Rattle.batch_history.specs.declared.call.WorkKind.{WorkKind}
use Rattle.batch_history.specs.declared.call.WorkKind.TheVariants.{Batchlet, Chunk, Decision}
use Rattle.batch_history.specs.declared.call.Entry.{Entry}
use Rattle.batch_history.specs.declared.rows.ExecutionRow.{ExecutionRow}
use Rattle.batch_history.specs.declared.rows.WorkRow.{WorkRow}
use Rattle.batch_history.specs.declared.rows.WorkState.{WorkState}
use Rattle.batch_history.specs.declared.rows.WorkState.TheVariants.{Busy, Over}
use Rattle.batch_history.proofs.Folds.{made, makes, is_made, folded_rows, execution_row}
use Rattle.batch_history.specs.Executions.{Made}
use Rattle.batch_history.specs.Replies.{is_nothing, reply_by, row_status, is_running_in, accepted, reply_to_claim, claim_reply, reply_to_stop, reply_to_abandon, go_or_stop, reply_to_kept_checkpoint, reply_to_stopped_step, reply_to_checkpoint, reply_to_finish, reply_to_end, reply_to_loss, loss_refusal, reply_to_restart, restart_refusal, refusal_by_status, is_restartable, is_later_than, report_refusal, unless, stop_requested_of, first_ready, walk_in_rows, has_something, is_execution, reply_to_purge, is_instance_there}
use Rattle.batch_history.specs.Purges.{is_purged}
use Rattle.batch_history.specs.Rows.{Rows, existing}
use Rattle.batch_history.specs.Statuses.{is_finished}
use Rattle.batch_history.specs.Walks.{job_named}
use Rattle.batch_history.specs.Works.{is_work}
use Rattle.batch_history.proofs.Legal.{entered-is}
use Rattle.batch_history.proofs.Stepping.{AreNumbered, numbered, remade-number}
use Rattle.batch_history.proofs.Finding.{found-passes}
use Rattle.batch_history.proofs.WorkLists.{found-before}

-- ---- Replies that were due

-- an entry has the reply that its call was due, and that is not Nothing
abbrev pub Due : ℕ → List JobTree → List Entry → Entry → Type 0
Due limit catalogue older e = (reply_by limit (folded_rows catalogue older) e.who e.call ≡ Ok e.reply) × (is_nothing e.reply ≡ false)

-- so has each entry of a past
abbrev pub AllDue : ℕ → List JobTree → List Entry → Type 0
AllDue limit catalogue [] = Unit {0}
AllDue limit catalogue (e ∷ older) = Due limit catalogue older e × AllDue limit catalogue older

-- an entry has the reply that its call was due by what existed
abbrev pub DueThere : ℕ → List JobTree → List Entry → Entry → Type 0
DueThere limit catalogue older e = reply_by limit (existing (is_purged older) (folded_rows catalogue older)) e.who e.call ≡ Ok e.reply

-- so has each entry of a past
abbrev pub AllDueThere : ℕ → List JobTree → List Entry → Type 0
AllDueThere limit catalogue [] = Unit {0}
AllDueThere limit catalogue (e ∷ older) = DueThere limit catalogue older e × AllDueThere limit catalogue older

-- ---- Job executions that were made

-- one that a row is found for
pub record IsRowOf (catalogue : List JobTree) (past : List Entry) (row : ExecutionRow) : Type 0 where
  pub one : Made
  pub is_row : row ≡ execution_row catalogue past one
  pub found : find (is_made one.execution) (made past) ≡ Some one

record IsFrom (f : Made → ExecutionRow) (k : ℕ) (ms : List Made) (row : ExecutionRow) : Type 0 where
  one : Made
  is_row : row ≡ f one
  found : find (is_made one.execution) ms ≡ Some one
  above : k ≤ one.execution

found-from : (f : Made → ExecutionRow) (p : ExecutionRow → Bool) (k : ℕ) (ms : List Made) (row : ExecutionRow) → AreNumbered k ms → find p (map f ms) ≡ Some row → IsFrom f k ms row
found-from f p k [] row h e = cc
found-from f p k (m ∷ ms) row h e =
    (elim (p (f m)) as (λ b. cond b (Some (f m)) (find p (map f ms)) ≡ Some row → IsFrom f k (m ∷ ms) row) [
      | true ↦ λ s.
          let here : (m.execution == m.execution) ≡ true = eq-eqb m.execution m.execution refl in
          record { one = m; is_row = cc; found = rw here refl; above = omega (arith, h.0) }
      | false ↦ λ s.
          let rest = found-from f p (k + 1) ms row h.1 s in
          let off : (m.execution == rest.one.execution) ≡ false = ne_eqb m.execution rest.one.execution (λ is. omega (arith, h.0, is, rest.above)) in
          record { one = rest.one; is_row = rest.is_row; found = rw off rest.found; above = omega (arith, rest.above) }
    ]) e

pub row-of : (catalogue : List JobTree) (past : List Entry) (p : ExecutionRow → Bool) (row : ExecutionRow)
    → find p (folded_rows catalogue past).executions ≡ Some row → IsRowOf catalogue past row
row-of catalogue past p row e =
    let from = found-from (execution_row catalogue past) p 1 (made past) row (numbered past) e in
    record { one = from.one; is_row = from.is_row; found = from.found }

found-above : (f : Made → ExecutionRow) (x k : ℕ) (ms : List Made) (row : ExecutionRow) → AreNumbered k ms → ((m : Made) → (f m).execution ≡ m.execution)
    → find (is_execution x) (map f ms) ≡ Some row → k ≤ x
found-above f x k [] row h named e = cc
found-above f x k (m ∷ ms) row h named e =
    (elim ((f m).execution == x) as (λ b. ((f m).execution == x) ≡ b → cond b (Some (f m)) (find (is_execution x) (map f ms)) ≡ Some row → k ≤ x) [
      | true ↦ λ is s. let here : (f m).execution ≡ x = eqb-true (f m).execution x is in omega (arith, h.0, named m, here)
      | false ↦ λ is s. let rest : k + 1 ≤ x = found-above f x (k + 1) ms row h.1 named s in omega (arith, rest)
    ]) refl e

-- the row that is found first has the least number of those that pass the test
pub found-least : (f : Made → ExecutionRow) (p : ExecutionRow → Bool) (x k : ℕ) (ms : List Made) (row other : ExecutionRow) → AreNumbered k ms
    → ((m : Made) → (f m).execution ≡ m.execution) → find p (map f ms) ≡ Some row → find (is_execution x) (map f ms) ≡ Some other → x < row.execution
    → p other ≡ false
found-least f p x k [] row other h named first there lt = cc
found-least f p x k (m ∷ ms) row other h named first there lt =
    (elim (p (f m)) as (λ b. p (f m) ≡ b → cond b (Some (f m)) (find p (map f ms)) ≡ Some row → p other ≡ false) [
      | true ↦ λ passes s.
          let is : f m ≡ row = cc in
          let number : (f m).execution ≡ row.execution = ap (λ (r : ExecutionRow). r.execution) is in
          let above : k ≤ x = found-above f x k (m ∷ ms) other h named there in
          absurd (omega (arith, lt, above, h.0, named m, number))
      | false ↦ λ fails s.
          (elim ((f m).execution == x) as (λ b. cond b (Some (f m)) (find (is_execution x) (map f ms)) ≡ Some other → p other ≡ false) [
            | true ↦ λ t. let is : f m ≡ other = cc in subst (λ r. p r ≡ false) is fails
            | false ↦ λ t. found-least f p x (k + 1) ms row other h.1 named s t lt
          ]) there
    ]) refl first

-- the row of a number is of the job execution that was made with it
pub row-made : (catalogue : List JobTree) (past : List Entry) (m : Made) (y : ℕ) (row : ExecutionRow) → find (is_execution y) (folded_rows catalogue past).executions ≡ Some row
    → find (is_made m.execution) (made past) ≡ Some m → (y == m.execution) ≡ true → row ≡ execution_row catalogue past m
row-made catalogue past m y row there found on =
    let from : IsRowOf catalogue past row = row-of catalogue past (is_execution y) row there in
    let n : Made = from.one in
    let number : row.execution ≡ y = eqb-true row.execution y (found-passes (is_execution y) (folded_rows catalogue past).executions row there) in
    let same : n.execution ≡ m.execution = sym (ap (λ (r : ExecutionRow). r.execution) from.is_row) ∙ (number ∙ eqb-true y m.execution on) in
    let one : n ≡ m = let both : Some n ≡ Some m = sym from.found ∙ (ap (λ x. find (is_made x) (made past)) same ∙ found) in cc in
    from.is_row ∙ ap (execution_row catalogue past) one

-- numbers of those that were made
pub made-among : (x k : ℕ) (ms : List Made) (m : Made) → AreNumbered k ms → find (is_made x) ms ≡ Some m → x < length ms + k
made-among x k [] m h e = cc
made-among x k (n ∷ ms) m h e =
    (elim (n.execution == x) as (λ b. (n.execution == x) ≡ b → cond b (Some n) (find (is_made x) ms) ≡ Some m → x < length (n ∷ ms) + k) [
      | true ↦ λ is s. let here : n.execution ≡ x = eqb-true n.execution x is in omega (arith, h.0, here)
      | false ↦ λ is s. omega (arith, made-among x (k + 1) ms m h.1 s)
    ]) refl e

makes-other : (count x : ℕ) (call : Call) → x < count + 1 → makes count x call ≡ false
makes-other count x (Start job parameters) lt = ne_eqb (count + 1) x (λ e. omega (arith, e, lt))
makes-other count x (Restart y parameters) lt = ne_eqb (count + 1) x (λ e. omega (arith, e, lt))
makes-other count x (Stop y) lt = refl
makes-other count x (Abandon y) lt = refl
makes-other count x Claim lt = refl
makes-other count x (Checkpoint w mark step) lt = refl
makes-other count x (Finish w o t step) lt = refl
makes-other count x (Lose w) lt = refl
makes-other count x (Purge i) lt = refl

-- a job execution that was made is not made again
pub made-once : (older : List Entry) (x : ℕ) (m : Made) (call : Call) → find (is_made x) (made older) ≡ Some m → makes (length (made older)) x call ≡ false
made-once older x m call e = makes-other (length (made older)) x call (made-among x 1 (made older) m (numbered older) e)

made-with : (x : ℕ) (m : Made) (older : List Entry) (at : ℕ) (call : Call) (reply : Reply) (who : ℕ) → find (is_made x) (made older) ≡ Some m
    → find (is_made x) (made (record { who = who; call = call; at = at; reply = reply } ∷ older)) ≡ Some m
made-with x m older at (Start job parameters) reply who h = found-before (is_made x) (made older) _ m h
made-with x m older at (Restart y parameters) reply who h = found-before (is_made x) (made older) _ m h
made-with x m older at (Stop y) reply who h = h
made-with x m older at (Abandon y) reply who h = h
made-with x m older at Claim reply who h = h
made-with x m older at (Checkpoint w mark step) reply who h = h
made-with x m older at (Finish w o t step) reply who h = h
made-with x m older at (Lose w) reply who h = h
made-with x m older at (Purge i) reply who h = h

-- and stays as it was made
pub made-more : (older : List Entry) (e : Entry) (x : ℕ) (m : Made) → find (is_made x) (made older) ≡ Some m → find (is_made x) (made (e ∷ older)) ≡ Some m
made-more older e x m h = made-with x m older e.at e.call e.reply e.who h

pub made-number : (x : ℕ) (past : List Entry) (m : Made) → find (is_made x) (made past) ≡ Some m → m.execution ≡ x
made-number x past m h = eqb-true m.execution x (found-passes (is_made x) (made past) m h)

-- ---- Before an operation

find-missed : {X : Type 0} (p : X → Bool) (xs : List X) (new x : X) → p new ≡ false → find p (xs ++ new ∷ []) ≡ Some x → find p xs ≡ Some x
find-missed p [] new x off e = let none : cond (p new) (Some new) None ≡ None = rw off refl in cc
find-missed p (y ∷ ys) new x off e =
    (elim (p y) as (λ b. cond b (Some y) (find p (ys ++ new ∷ [])) ≡ Some x → cond b (Some y) (find p ys) ≡ Some x) [
      | true ↦ λ s. s
      | false ↦ λ s. find-missed p ys new x off s
    ]) e

-- a job execution that an operation doesn't make was made before it
made-call : (older : List Entry) (who at : ℕ) (call : Call) (reply : Reply) (x : ℕ) (m : Made) → makes (length (made older)) x call ≡ false
    → find (is_made x) (made (record { who = who; call = call; at = at; reply = reply } ∷ older)) ≡ Some m → find (is_made x) (made older) ≡ Some m
made-call older who at (Start job parameters) reply x m off e = find-missed (is_made x) (made older) _ m off e
made-call older who at (Restart y parameters) reply x m off e =
    find-missed (is_made x) (made older) _ m (ap (λ n. n == x) (remade-number (length (made older) + 1) at parameters (find (is_made y) (made older))) ∙ off) e
made-call older who at (Stop y) reply x m off e = e
made-call older who at (Abandon y) reply x m off e = e
made-call older who at Claim reply x m off e = e
made-call older who at (Checkpoint w mark step) reply x m off e = e
made-call older who at (Finish w o t step) reply x m off e = e
made-call older who at (Lose w) reply x m off e = e
made-call older who at (Purge i) reply x m off e = e

pub made-before : (older : List Entry) (e : Entry) (x : ℕ) (m : Made) → makes (length (made older)) x e.call ≡ false
    → find (is_made x) (made (e ∷ older)) ≡ Some m → find (is_made x) (made older) ≡ Some m
made-before older e x m off found = made-call older e.who e.at e.call e.reply x m off found

-- ---- What replies tell

-- a claim that is answered found a job execution with something to do
pub record ToldClaim (r : Rows) (given : Reply) : Type 0 where
  pub row : ExecutionRow
  pub found : find (has_something r) r.executions ≡ Some row
  pub answered : given ≡ claim_reply r row (first_ready (walk_in_rows r row))

claim-found : (limit : ℕ) (r : Rows) (found : Option ExecutionRow) (given : Reply) → find (has_something r) r.executions ≡ found
    → reply_to_claim limit r found ≡ Ok given → is_nothing given ≡ false → ToldClaim r given
claim-found limit r None given is e some = cc
claim-found limit r (Some row) given is e some = record { row = row; found = is; answered = entered-is limit r.count _ given e }

pub claim-told : (limit : ℕ) (r : Rows) (given : Reply) → reply_to_claim limit r (find (has_something r) r.executions) ≡ Ok given → is_nothing given ≡ false → ToldClaim r given
claim-told limit r given e some = claim-found limit r (find (has_something r) r.executions) given refl e some

-- a report that is accepted is of a busy work item
pub record ToldReport (works : List WorkRow) (w : ℕ) : Type 0 where
  pub row : WorkRow
  pub found : find (is_work w) works ≡ Some row
  pub busy : row.state ≡ Busy

held-busy : (who claimer : ℕ) (state : WorkState) (reply : Result Reply Refusal) (given : Reply) → unless (report_refusal who claimer state) reply ≡ Ok given → state ≡ Busy
held-busy who claimer Busy reply given e = refl
held-busy who claimer (Over outcome exit) reply given e = cc

checkpoint-found : (limit : ℕ) (r : Rows) (who w : ℕ) (found : Option WorkRow) (given : Reply) → find (is_work w) r.works ≡ found
    → reply_to_checkpoint limit r who found ≡ Ok given → ToldReport r.works w
checkpoint-found limit r who w None given is e = cc
checkpoint-found limit r who w (Some row) given is e = record { row = row; found = is; busy = held-busy who row.claimer row.state _ given e }

finish-found : (limit : ℕ) (r : Rows) (who w : ℕ) (o : WorkOutcome) (found : Option WorkRow) (given : Reply) → find (is_work w) r.works ≡ found
    → reply_to_finish limit r who o found ≡ Ok given → ToldReport r.works w
finish-found limit r who w o None given is e = cc
finish-found limit r who w o (Some row) given is e = record { row = row; found = is; busy = held-busy who row.claimer row.state _ given e }

pub checkpoint-told : (limit : ℕ) (r : Rows) (who w : ℕ) (given : Reply) → reply_to_checkpoint limit r who (find (is_work w) r.works) ≡ Ok given → ToldReport r.works w
checkpoint-told limit r who w given e = checkpoint-found limit r who w (find (is_work w) r.works) given refl e

pub finish-told : (limit : ℕ) (r : Rows) (who w : ℕ) (o : WorkOutcome) (given : Reply) → reply_to_finish limit r who o (find (is_work w) r.works) ≡ Ok given → ToldReport r.works w
finish-told limit r who w o given e = finish-found limit r who w o (find (is_work w) r.works) given refl e

lost-busy : (state : WorkState) (reply : Result Reply Refusal) (given : Reply) → unless (loss_refusal state) reply ≡ Ok given → state ≡ Busy
lost-busy Busy reply given e = refl
lost-busy (Over outcome exit) reply given e = cc

loss-found : (limit count : ℕ) (works : List WorkRow) (w : ℕ) (found : Option WorkRow) (given : Reply) → find (is_work w) works ≡ found
    → reply_to_loss limit count found ≡ Ok given → ToldReport works w
loss-found limit count works w None given is e = cc
loss-found limit count works w (Some row) given is e = record { row = row; found = is; busy = lost-busy row.state _ given e }

pub loss-told : (limit count : ℕ) (works : List WorkRow) (w : ℕ) (given : Reply) → reply_to_loss limit count (find (is_work w) works) ≡ Ok given → ToldReport works w
loss-told limit count works w given e = loss-found limit count works w (find (is_work w) works) given refl e

-- a restart that is accepted is of a job execution with no later one in its job instance, STOPPED or FAILED
pub record ToldRestart (r : Rows) (y : ℕ) : Type 0 where
  pub row : ExecutionRow
  pub found : find (is_execution y) r.executions ≡ Some row
  pub newest : list_any (is_later_than row) r.executions ≡ false
  pub over : (row_status row ≡ IsStopped) ⊎ (row_status row ≡ IsFailed)

over-status : (restartable : Bool) (status : BatchStatus) (reply : Result Reply Refusal) (given : Reply)
    → unless (refusal_by_status restartable status) reply ≡ Ok given → (status ≡ IsStopped) ⊎ (status ≡ IsFailed)
over-status restartable IsCompleted reply given e = cc
over-status restartable IsStopped reply given e = inl refl
over-status restartable IsFailed reply given e = inr refl
over-status restartable Starting reply given e = cc
over-status restartable Started reply given e = cc
over-status restartable Stopping reply given e = cc
over-status restartable Abandoned reply given e = cc

restart-found : (limit : ℕ) (r : Rows) (y : ℕ) (found : Option ExecutionRow) (given : Reply) → find (is_execution y) r.executions ≡ found
    → reply_to_restart limit r found ≡ Ok given → ToldRestart r y
restart-found limit r y None given is e = cc
restart-found limit r y (Some row) given is e =
    let restartable : Bool = is_restartable (job_named r.catalogue row.job) in
    let reply : Result Reply Refusal = accepted limit r.count (IsExecution (r.last.execution + 1)) in
    (elim (list_any (is_later_than row) r.executions) as (λ b. list_any (is_later_than row) r.executions ≡ b
    → unless (cond b (Some JobExecutionNotMostRecentException) (refusal_by_status restartable (row_status row))) reply ≡ Ok given → ToldRestart r y) [
      | true ↦ λ s t. cc
      | false ↦ λ s t. record { row = row; found = is; newest = s; over = over-status restartable (row_status row) reply given t }
    ]) refl e

pub restart-told : (limit : ℕ) (r : Rows) (y : ℕ) (given : Reply) → reply_to_restart limit r (find (is_execution y) r.executions) ≡ Ok given → ToldRestart r y
restart-told limit r y given e = restart-found limit r y (find (is_execution y) r.executions) given refl e

-- a stop that is accepted is of an unfinished job execution
pub record ToldStop (r : Rows) (x : ℕ) : Type 0 where
  pub row : ExecutionRow
  pub found : find (is_execution x) r.executions ≡ Some row
  pub unfinished : is_finished (row_status row) ≡ false

stop-found : (limit : ℕ) (r : Rows) (x : ℕ) (found : Option ExecutionRow) (given : Reply) → find (is_execution x) r.executions ≡ found
    → reply_to_stop limit r.count found ≡ Ok given → ToldStop r x
stop-found limit r x None given is e = cc
stop-found limit r x (Some row) given is e =
    (elim (is_finished (row_status row)) as (λ b. is_finished (row_status row) ≡ b → cond b (Err JobExecutionNotRunningException) (accepted limit r.count Done) ≡ Ok given → ToldStop r x) [
      | true ↦ λ s t. cc
      | false ↦ λ s t. record { row = row; found = is; unfinished = s }
    ]) refl e

pub stop-told : (limit : ℕ) (r : Rows) (x : ℕ) (given : Reply) → reply_to_stop limit r.count (find (is_execution x) r.executions) ≡ Ok given → ToldStop r x
stop-told limit r x given e = stop-found limit r x (find (is_execution x) r.executions) given refl e

-- an abandonment that is accepted is of a job instance with no unfinished job execution
pub record ToldAbandonment (r : Rows) (x : ℕ) : Type 0 where
  pub row : ExecutionRow
  pub found : find (is_execution x) r.executions ≡ Some row
  pub none : list_any (is_running_in row.instance) r.executions ≡ false

abandonment-found : (limit : ℕ) (r : Rows) (x : ℕ) (found : Option ExecutionRow) (given : Reply) → find (is_execution x) r.executions ≡ found
    → reply_to_abandon limit r found ≡ Ok given → ToldAbandonment r x
abandonment-found limit r x None given is e = cc
abandonment-found limit r x (Some row) given is e =
    (elim (list_any (is_running_in row.instance) r.executions) as (λ b. list_any (is_running_in row.instance) r.executions ≡ b
    → cond b (Err JobExecutionIsRunningException) (accepted limit r.count Done) ≡ Ok given → ToldAbandonment r x) [
      | true ↦ λ s t. cc
      | false ↦ λ s t. record { row = row; found = is; none = s }
    ]) refl e

pub abandonment-told : (limit : ℕ) (r : Rows) (x : ℕ) (given : Reply) → reply_to_abandon limit r (find (is_execution x) r.executions) ≡ Ok given → ToldAbandonment r x
abandonment-told limit r x given e = abandonment-found limit r x (find (is_execution x) r.executions) given refl e

-- ---- Work is handed out by claims alone

not-work : (limit count : ℕ) (given : Reply) (item : WorkItem) → (given ≡ Work item → ⊥) → accepted limit count given ≡ Ok (Work item) → ⊥
not-work limit count given item other e = other (sym (entered-is limit count given (Work item) e))

not-tested : (b : Bool) (refusal : Refusal) (reply : Result Reply Refusal) (item : WorkItem) → (reply ≡ Ok (Work item) → ⊥) → cond b (Err refusal) reply ≡ Ok (Work item) → ⊥
not-tested true refusal reply item other e = cc
not-tested false refusal reply item other e = other e

not-made : (b : Bool) (refusal : Refusal) (reply : Result Reply Refusal) (item : WorkItem) → (reply ≡ Ok (Work item) → ⊥) → cond b reply (Err refusal) ≡ Ok (Work item) → ⊥
not-made true refusal reply item other e = other e
not-made false refusal reply item other e = cc

not-unless : (refusal : Option Refusal) (reply : Result Reply Refusal) (item : WorkItem) → (reply ≡ Ok (Work item) → ⊥) → unless refusal reply ≡ Ok (Work item) → ⊥
not-unless None reply item other e = other e
not-unless (Some refusal) reply item other e = cc

going-other : (stop : Bool) (item : WorkItem) → go_or_stop stop ≡ Work item → ⊥
going-other true item e = cc
going-other false item e = cc

not-marked : (limit count : ℕ) (stop : Bool) (kind : WorkKind) (item : WorkItem) → reply_to_kept_checkpoint limit count stop kind ≡ Ok (Work item) → ⊥
not-marked limit count stop Chunk item e = not-work limit count (go_or_stop stop) item (going-other stop item) e
not-marked limit count stop Batchlet item e = cc
not-marked limit count stop Decision item e = cc

not-stopped : (limit count : ℕ) (stop : Bool) (item : WorkItem) → reply_to_stopped_step limit count stop ≡ Ok (Work item) → ⊥
not-stopped limit count true item e = not-work limit count Done item (λ s. cc) e
not-stopped limit count false item e = cc

not-ended : (limit count : ℕ) (stop : Bool) (kind : WorkKind) (o : WorkOutcome) (item : WorkItem) → reply_to_end limit count stop kind o ≡ Ok (Work item) → ⊥
not-ended limit count stop Decision Stopped item e = cc
not-ended limit count stop Batchlet Stopped item e = not-stopped limit count stop item e
not-ended limit count stop Chunk Stopped item e = not-stopped limit count stop item e
not-ended limit count stop kind Completed item e = not-work limit count Done item (λ s. cc) e
not-ended limit count stop kind Failed item e = not-work limit count Done item (λ s. cc) e

not-checkpointed : (limit : ℕ) (r : Rows) (who : ℕ) (found : Option WorkRow) (item : WorkItem) → reply_to_checkpoint limit r who found ≡ Ok (Work item) → ⊥
not-checkpointed limit r who None item e = cc
not-checkpointed limit r who (Some row) item e =
    not-unless (report_refusal who row.claimer row.state) _ item (not-marked limit r.count (stop_requested_of r row.execution) row.kind item) e

not-finished : (limit : ℕ) (r : Rows) (who : ℕ) (o : WorkOutcome) (found : Option WorkRow) (item : WorkItem) → reply_to_finish limit r who o found ≡ Ok (Work item) → ⊥
not-finished limit r who o None item e = cc
not-finished limit r who o (Some row) item e =
    not-unless (report_refusal who row.claimer row.state) _ item (not-ended limit r.count (stop_requested_of r row.execution) row.kind o item) e

not-stop : (limit count : ℕ) (found : Option ExecutionRow) (item : WorkItem) → reply_to_stop limit count found ≡ Ok (Work item) → ⊥
not-stop limit count None item e = cc
not-stop limit count (Some row) item e = not-tested (is_finished (row_status row)) JobExecutionNotRunningException _ item (not-work limit count Done item (λ s. cc)) e

not-abandoned : (limit : ℕ) (r : Rows) (found : Option ExecutionRow) (item : WorkItem) → reply_to_abandon limit r found ≡ Ok (Work item) → ⊥
not-abandoned limit r None item e = cc
not-abandoned limit r (Some row) item e =
    not-tested (list_any (is_running_in row.instance) r.executions) JobExecutionIsRunningException _ item (not-work limit r.count Done item (λ s. cc)) e

not-lost : (limit count : ℕ) (found : Option WorkRow) (item : WorkItem) → reply_to_loss limit count found ≡ Ok (Work item) → ⊥
not-lost limit count None item e = cc
not-lost limit count (Some row) item e = not-unless (loss_refusal row.state) _ item (not-work limit count Done item (λ s. cc)) e

not-restarted : (limit : ℕ) (r : Rows) (found : Option ExecutionRow) (item : WorkItem) → reply_to_restart limit r found ≡ Ok (Work item) → ⊥
not-restarted limit r None item e = cc
not-restarted limit r (Some row) item e =
    not-unless (restart_refusal r row) _ item (not-work limit r.count (IsExecution (r.last.execution + 1)) item (λ s. cc)) e

not-purged : (limit : ℕ) (r : Rows) (i : ℕ) (item : WorkItem) → reply_to_purge limit r i ≡ Ok (Work item) → ⊥
not-purged limit r i item e =
    (elim (is_instance_there i r) as (λ b. cond b (cond (list_any (is_running_in i) r.executions) (Err JobExecutionIsRunningException) (accepted limit r.count Done)) (Err NoSuchJobInstanceException) ≡ Ok (Work item) → ⊥) [
      | true ↦ λ s. not-tested (list_any (is_running_in i) r.executions) JobExecutionIsRunningException _ item (not-work limit r.count Done item (λ t. cc)) s
      | false ↦ λ s. cc
    ]) e

-- a call that is answered with work is a claim
pub work-told : (limit : ℕ) (r : Rows) (who : ℕ) (call : Call) (item : WorkItem) → reply_by limit r who call ≡ Ok (Work item) → ToldClaim r (Work item)
work-told limit r who (Start job parameters) item e =
    absurd (not-made (is_some (job_named r.catalogue job)) JobStartException _ item (not-work limit r.count (IsExecution (r.last.execution + 1)) item (λ s. cc)) e)
work-told limit r who (Restart x parameters) item e = absurd (not-restarted limit r (find (is_execution x) r.executions) item e)
work-told limit r who (Stop x) item e = absurd (not-stop limit r.count (find (is_execution x) r.executions) item e)
work-told limit r who (Abandon x) item e = absurd (not-abandoned limit r (find (is_execution x) r.executions) item e)
work-told limit r who Claim item e = claim-told limit r (Work item) e refl
work-told limit r who (Checkpoint w mark step) item e = absurd (not-checkpointed limit r who (find (is_work w) r.works) item e)
work-told limit r who (Finish w o exit step) item e = absurd (not-finished limit r who o (find (is_work w) r.works) item e)
work-told limit r who (Lose w) item e = absurd (not-lost limit r.count (find (is_work w) r.works) item e)
work-told limit r who (Purge i) item e = absurd (not-purged limit r i item e)
