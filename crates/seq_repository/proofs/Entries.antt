-- How an operation's changes, one at a time, come to what it changes in the rows.
use mathlib.Core.Path.{fun_ext}
use Rattle.std.proofs.Common.{◌≡◌, ℕ, ◌+◌, ◌==◌, Bool, true, false, cond, Option, None, Some, Bor, is_some, option_copied, List, [], ◌∷◌, ◌++◌, find, refl, sym, ◌∙◌, ap}
use Rattle.std.specs.Option.{option_map}
use Rattle.std.proofs.lemmas.Bool.{eqb-true, eq-eqb}
use Rattle.batch_ids.specs.Parameters.{Pair}
use Rattle.batch_ids.specs.declared.metric_step.MetricStep.{MetricStep}
use Rattle.batch_ids.specs.declared.status.WorkOutcome.{WorkOutcome}
use Rattle.jsl_model.specs.Jobs.{JobTree}
use Rattle.batch_history.specs.declared.call.Call.TheVariants.{Start, Restart, Stop, Abandon, Claim, Checkpoint, Finish}
use Rattle.batch_history.specs.declared.call.Reply.{Reply}
use Rattle.batch_history.specs.declared.call.Reply.TheVariants.{Work, Closed}
use Rattle.batch_history.specs.declared.call.WorkItem.{WorkItem}
use Rattle.batch_history.specs.declared.rows.CheckpointRow.{CheckpointRow}
use Rattle.batch_history.specs.declared.rows.ExecutionRow.{ExecutionRow}
use Rattle.batch_history.specs.declared.rows.JobInstance.{JobInstance}
use Rattle.batch_history.specs.declared.rows.WorkRow.{WorkRow}
use Rattle.batch_history.specs.NextRows.{reported, over, over_as, fresh_row, again_row, refreshed_by, place_in, rows_after}
use Rattle.batch_history.specs.Checkpoints.{InstanceStep, instance_step_by, is_same_step, checkpoint_left}
use Rattle.batch_history.specs.Lists.{change_first, is_at}
use Rattle.batch_history.specs.Replies.{instance_in, is_execution, restart_plan}
use Rattle.batch_history.specs.Rows.{Rows}
use Rattle.batch_history.specs.Restarts.{first_plan}
use Rattle.batch_history.specs.Walks.{job_named}
use Rattle.batch_history.specs.Works.{is_work, busy_work, work_key}
use Rattle.walk_rules.specs.declared.work_key.WorkKey.{WorkKey}
use Rattle.restart_rules.specs.Restarting.{rows_over}
use Rattle.seq_repository.specs.Kept.{Kept, rows_in}
use Rattle.batch_history.specs.declared.rows.LastNumbers.{LastNumbers}
use Rattle.batch_history.proofs.Finding.{found-passes}
use Rattle.records.specs.Maps.{Maps, mark_at, MayReplaceWork}
use Rattle.seq_repository.specs.declared.rows.Change.{Change}
use Rattle.seq_repository.specs.declared.rows.Change.TheVariants.{StopRequest, Claim as TakeUp, Report}
use Rattle.seq_repository.specs.Changes.{row_after, row_given_up, put_row, place_at, SetsMark, LeavesMark}
use Rattle.seq_repository.proofs.Marks.{mark-set, mark-left, set-alone, left-alone}

-- Changing the first that passes a test

change-none : {X : Type 0} (p : X → Bool) (f : X → X) (xs : List X) → find p xs ≡ None → change_first p f xs ≡ xs
change-none p f [] e = refl
change-none p f (x ∷ xs) e =
    (elim (p x) as (λ b. cond b (Some x) (find p xs) ≡ None → cond b (f x ∷ xs) (x ∷ change_first p f xs) ≡ x ∷ xs) [
      | true ↦ λ s. cc
      | false ↦ λ s. ap (λ l. x ∷ l) (change-none p f xs s)
    ]) e

-- to put the changed one in its place is to change it
pub change-found : {X : Type 0} (p : X → Bool) (f : X → X) (xs : List X) (r : X) → find p xs ≡ Some r
    → change_first p (λ old. f r) xs ≡ change_first p f xs
change-found p f [] r e = refl
change-found p f (x ∷ xs) r e =
    (elim (p x) as (λ b. cond b (Some x) (find p xs) ≡ Some r → cond b (f r ∷ xs) (x ∷ change_first p (λ old. f r) xs) ≡ cond b (f x ∷ xs) (x ∷ change_first p f xs)) [
      | true ↦ λ s. cc
      | false ↦ λ s. ap (λ l. x ∷ l) (change-found p f xs r s)
    ]) e

-- changes that agree on what passes the test
change-same : {X : Type 0} (p : X → Bool) (f g : X → X) (xs : List X) → ((x : X) → p x ≡ true → f x ≡ g x)
    → change_first p f xs ≡ change_first p g xs
change-same p f g [] same = refl
change-same p f g (x ∷ xs) same =
    (elim (p x) as (λ b. p x ≡ b → cond b (f x ∷ xs) (x ∷ change_first p f xs) ≡ cond b (g x ∷ xs) (x ∷ change_first p g xs)) [
      | true ↦ λ e. ap (λ y. y ∷ xs) (same x e)
      | false ↦ λ e. ap (λ l. x ∷ l) (change-same p f g xs same)
    ]) refl

-- a row that was found and changed, in its place
pub put_found : (x : ℕ) (f : ExecutionRow → ExecutionRow) (rows : List ExecutionRow) (new : Option ExecutionRow)
    → new ≡ option_map f (find (is_execution x) rows) → put_row x new rows ≡ change_first (is_execution x) f rows
put_found x f rows new is =
    ap (λ (o : Option ExecutionRow). put_row x o rows) is
    ∙ (elim (find (is_execution x) rows) as (λ o. find (is_execution x) rows ≡ o → put_row x (option_map f o) rows ≡ change_first (is_execution x) f rows) [
      | None ↦ λ e. sym (change-none (is_execution x) f rows e)
      | Some r ↦ λ e. change-found (is_execution x) f rows r e
    ]) refl

-- The effect of an operation on its job execution

at-own : (x y : ℕ) → (y == x) ≡ true → is_at y (Some x) ≡ true
at-own x y e = eq-eqb x y (sym (eqb-true y x e))

pub changed_stop : (catalogue : List JobTree) (works : List WorkRow) (at x : ℕ) (reply : Reply) (rows : List ExecutionRow)
    → change_first (is_execution x) (row_after StopRequest catalogue works at) rows ≡ change_first (is_execution x) (refreshed_by catalogue works at (Stop x) reply) rows
changed_stop catalogue works at x reply rows =
    change-same (is_execution x) _ _ rows (λ r e. rw (at-own x r.execution e) refl)

pub changed_abandon : (catalogue : List JobTree) (works : List WorkRow) (at x : ℕ) (reply : Reply) (rows : List ExecutionRow)
    → change_first (is_execution x) (row_given_up catalogue works at) rows ≡ change_first (is_execution x) (refreshed_by catalogue works at (Abandon x) reply) rows
changed_abandon catalogue works at x reply rows =
    change-same (is_execution x) _ _ rows (λ r e. rw (at-own x r.execution e) refl)

pub changed_closed : (catalogue : List JobTree) (works : List WorkRow) (at x : ℕ) (rows : List ExecutionRow)
    → change_first (is_execution x) (row_after TakeUp catalogue works at) rows ≡ change_first (is_execution x) (refreshed_by catalogue works at Claim (Closed x)) rows
changed_closed catalogue works at x rows =
    change-same (is_execution x) _ _ rows (λ r e. rw (at-own x r.execution e) refl)

changed-work : (catalogue : List JobTree) (works : List WorkRow) (at : ℕ) (item : WorkItem) (rows : List ExecutionRow)
    → change_first (is_execution item.execution) (row_after TakeUp catalogue works at) rows ≡ change_first (is_execution item.execution) (refreshed_by catalogue works at Claim (Work item)) rows
changed-work catalogue works at item rows =
    change-same (is_execution item.execution) _ _ rows (λ r e. rw (at-own item.execution r.execution e) refl)

-- The rows after an operation

-- a stop
pub stop_rows : (kept new : Kept) (who at x : ℕ) (reply : Reply)
    → rows_in new ≡ record (rows_in kept) { count = kept.count + 1; executions = change_first (is_execution x) (row_after StopRequest kept.catalogue kept.records.works at) kept.records.executions }
    → rows_in new ≡ rows_after (rows_in kept) record { who = who; call = Stop x; at = at; reply = reply }
stop_rows kept new who at x reply is =
    is
    ∙ ap (λ (xs : List ExecutionRow). record (rows_in kept) { count = kept.count + 1; executions = xs }) (changed_stop kept.catalogue kept.records.works at x reply kept.records.executions)

-- an abandonment
pub abandon_rows : (kept new : Kept) (who at x : ℕ) (reply : Reply)
    → rows_in new ≡ record (rows_in kept) { count = kept.count + 1; executions = change_first (is_execution x) (row_given_up kept.catalogue kept.records.works at) kept.records.executions }
    → rows_in new ≡ rows_after (rows_in kept) record { who = who; call = Abandon x; at = at; reply = reply }
abandon_rows kept new who at x reply is =
    is
    ∙ ap (λ (xs : List ExecutionRow). record (rows_in kept) { count = kept.count + 1; executions = xs }) (changed_abandon kept.catalogue kept.records.works at x reply kept.records.executions)

-- a claim that closes
pub closed_rows : (kept new : Kept) (who at x : ℕ)
    → rows_in new ≡ record (rows_in kept) { count = kept.count + 1; executions = change_first (is_execution x) (row_after TakeUp kept.catalogue kept.records.works at) kept.records.executions }
    → rows_in new ≡ rows_after (rows_in kept) record { who = who; call = Claim; at = at; reply = Closed x }
closed_rows kept new who at x is =
    is
    ∙ ap (λ (xs : List ExecutionRow). record (rows_in kept) { count = kept.count + 1; executions = xs }) (changed_closed kept.catalogue kept.records.works at x kept.records.executions)

-- a claim that hands out a work item
work_rows : (r : Rows) (who at : ℕ) (item : WorkItem) (new : Option ExecutionRow)
    → new ≡ option_map (row_after TakeUp r.catalogue (r.works ++ busy_work who at item ∷ []) at) (find (is_execution item.execution) r.executions)
    → record r {
      count = r.count + 1;
      last = record r.last { work = r.last.work + 1 };
      executions = put_row item.execution new r.executions;
      works = r.works ++ busy_work who at item ∷ [];
    } ≡ rows_after r record { who = who; call = Claim; at = at; reply = Work item }
work_rows r who at item new is =
    let works : List WorkRow = r.works ++ busy_work who at item ∷ [] in
    ap (λ (xs : List ExecutionRow). record r { count = r.count + 1; last = record r.last { work = r.last.work + 1 }; executions = xs; works = works })
    (put_found item.execution (row_after TakeUp r.catalogue works at) r.executions new is ∙ changed-work r.catalogue works at item r.executions)

-- the step of a work item in its job instance, by the new row of its job execution
place-at : (r : Rows) (w : ℕ) (row : WorkRow) (change : Change) (works : List WorkRow) (at : ℕ) (new : Option ExecutionRow)
    → find (is_work w) r.works ≡ Some row
    → new ≡ option_map (row_after change r.catalogue works at) (find (is_execution row.execution) r.executions)
    → place_at new (work_key row) ≡ place_in r w
place-at r w row change works at new found is =
    ap (λ (o : Option ExecutionRow). place_at o (work_key row)) is
    ∙ ((elim (find (is_execution row.execution) r.executions) as (λ o. place_at (option_map (row_after change r.catalogue works at) o) (work_key row)
    ≡ option_map (λ i. record { instance = i; step = work_key row }) (option_map (λ (e : ExecutionRow). e.instance) o)) [
      | None ↦ refl
      | Some e ↦ refl
    ]) ∙ ap (instance_step_by (instance_in r.executions)) (sym found))

-- a checkpoint
checkpoint_rows : (r : Rows) (who at w : ℕ) (mark : List ℕ) (step : MetricStep) (reply : Reply) (row : WorkRow) (new : Option ExecutionRow) (marks : InstanceStep → Option (List ℕ))
    → find (is_work w) r.works ≡ Some row
    → new ≡ option_map (row_after Report r.catalogue (change_first (is_work w) (reported step) r.works) at) (find (is_execution row.execution) r.executions)
    → ((p : InstanceStep) → marks p ≡ cond (is_same_step p (place_at new (work_key row))) (Some mark) (r.checkpoint p))
    → record r {
      count = r.count + 1;
      executions = put_row row.execution new r.executions;
      works = change_first (is_work w) (λ old. reported step row) r.works;
      checkpoint = marks;
    } ≡ rows_after r record { who = who; call = Checkpoint w mark step; at = at; reply = reply }
checkpoint_rows r who at w mark step reply row new marks found is marked =
    let works : List WorkRow = change_first (is_work w) (reported step) r.works in
    let changed : List ExecutionRow = change_first (is_execution row.execution) (row_after Report r.catalogue works at) r.executions in
    let marks_at : Option InstanceStep → InstanceStep → Option (List ℕ) = λ o p. cond (is_same_step p o) (Some mark) (r.checkpoint p) in
    ap (λ (xs : List ExecutionRow). record r { count = r.count + 1; executions = xs; works = change_first (is_work w) (λ old. reported step row) r.works; checkpoint = marks })
    (put_found row.execution (row_after Report r.catalogue works at) r.executions new is)
    ∙ (ap (λ (ws : List WorkRow). record r { count = r.count + 1; executions = changed; works = ws; checkpoint = marks })
    (change-found (is_work w) (reported step) r.works row found)
    ∙ (ap (λ (cs : InstanceStep → Option (List ℕ)). record r { count = r.count + 1; executions = changed; works = works; checkpoint = cs })
    (fun_ext marked ∙ ap marks_at (place-at r w row Report works at new found is))
    ∙ rw found refl))

-- the end of a work item
finish_rows : (r : Rows) (who at w : ℕ) (outcome : WorkOutcome) (exit : Option (List ℕ)) (step : MetricStep) (reply : Reply) (row : WorkRow) (new : Option ExecutionRow)
    (marks : InstanceStep → Option (List ℕ))
    → find (is_work w) r.works ≡ Some row
    → new ≡ option_map (row_after Report r.catalogue (change_first (is_work w) (over outcome exit step at (r.count + 1)) r.works) at) (find (is_execution row.execution) r.executions)
    → ((p : InstanceStep) → marks p ≡ cond (is_same_step p (place_at new (work_key row))) (checkpoint_left outcome (r.checkpoint p)) (r.checkpoint p))
    → record r {
      count = r.count + 1;
      executions = put_row row.execution new r.executions;
      works = change_first (is_work w) (λ old. over outcome exit step at (r.count + 1) row) r.works;
      checkpoint = marks;
    } ≡ rows_after r record { who = who; call = Finish w outcome exit step; at = at; reply = reply }
finish_rows r who at w outcome exit step reply row new marks found is left =
    let works : List WorkRow = change_first (is_work w) (over outcome exit step at (r.count + 1)) r.works in
    let changed : List ExecutionRow = change_first (is_execution row.execution) (row_after Report r.catalogue works at) r.executions in
    let marks_at : Option InstanceStep → InstanceStep → Option (List ℕ) = λ o p. cond (is_same_step p o) (checkpoint_left outcome (r.checkpoint p)) (r.checkpoint p) in
    ap (λ (xs : List ExecutionRow). record r { count = r.count + 1; executions = xs; works = change_first (is_work w) (λ old. over outcome exit step at (r.count + 1) row) r.works; checkpoint = marks })
    (put_found row.execution (row_after Report r.catalogue works at) r.executions new is)
    ∙ (ap (λ (ws : List WorkRow). record r { count = r.count + 1; executions = changed; works = ws; checkpoint = marks })
    (change-found (is_work w) (over outcome exit step at (r.count + 1)) r.works row found)
    ∙ (ap (λ (cs : InstanceStep → Option (List ℕ)). record r { count = r.count + 1; executions = changed; works = works; checkpoint = cs })
    (fun_ext left ∙ ap marks_at (place-at r w row Report works at new found is))
    ∙ rw found refl))

-- What is found

pub found-execution : (x : ℕ) (rows : List ExecutionRow) (row : ExecutionRow) → find (is_execution x) rows ≡ Some row → row.execution ≡ x
found-execution x rows row e = eqb-true row.execution x (found-passes (is_execution x) rows row e)

pub found-work : (w : ℕ) (rows : List WorkRow) (row : WorkRow) → find (is_work w) rows ≡ Some row → row.work ≡ w
found-work w rows row e = eqb-true row.work w (found-passes (is_work w) rows row e)

pub copied-some : {X : Type 0} (o : Option (Bor X)) → is_some (option_copied o) ≡ is_some o
copied-some None = refl
copied-some (Some x) = refl

-- a work item that is reported of may stand in its place
pub reported-own : (w : ℕ) (step : MetricStep) (rows : List WorkRow) (row new : WorkRow) → find (is_work w) rows ≡ Some row → new ≡ reported step row → MayReplaceWork rows w new
reported-own w step rows row new found made = (
  row,
  found,
  record {
    work = ap (λ (r : WorkRow). r.work) made;
    execution = ap (λ (r : WorkRow). r.execution) made;
    element = ap (λ (r : WorkRow). r.element) made;
  },
)

-- a work item that ends may stand in its place
pub over-own : (w : ℕ) (outcome : WorkOutcome) (exit : List ℕ) (step : MetricStep) (at n : ℕ) (rows : List WorkRow) (row new : WorkRow) → find (is_work w) rows ≡ Some row
    → new ≡ over_as outcome exit step at n row → MayReplaceWork rows w new
over-own w outcome exit step at n rows row new found made = (
  row,
  found,
  record {
    work = ap (λ (r : WorkRow). r.work) made;
    execution = ap (λ (r : WorkRow). r.execution) made;
    element = ap (λ (r : WorkRow). r.element) made;
  },
)

-- The maps, changed one after the other

pub maps-changed : (old m1 m2 m3 : Maps) (cs : List CheckpointRow) (f : List WorkRow → List WorkRow) (h : List ExecutionRow → List ExecutionRow)
    → m1 ≡ record old { checkpoints = cs } → m2 ≡ record m1 { works = f m1.works } → m3 ≡ record m2 { executions = h m2.executions }
    → m3 ≡ record { instances = old.instances; executions = h old.executions; works = f old.works; checkpoints = cs }
maps-changed old m1 m2 m3 cs f h e1 e2 e3 =
    e3 ∙ ap (λ (m : Maps). record m { executions = h m.executions }) (e2 ∙ ap (λ (m : Maps). record m { works = f m.works }) e1)

pub checkpoint-entered : (catalogue : List JobTree) (count : ℕ) (last : LastNumbers) (old m1 m2 m3 : Maps) (who at w : ℕ) (mark : List ℕ) (step : MetricStep) (reply : Reply)
    (row kept : WorkRow) (new : Option ExecutionRow) (element : WorkKey) (marked : List ℕ)
    → find (is_work w) old.works ≡ Some row → kept ≡ reported step row → element ≡ work_key row → marked ≡ mark
    → new ≡ option_map (row_after Report catalogue (change_first (is_work w) (reported step) old.works) at) (find (is_execution row.execution) old.executions)
    → SetsMark (place_at new element) (Some marked) old m1
    → m2 ≡ record m1 { works = change_first (is_work w) (λ gone. kept) m1.works }
    → m3 ≡ record m2 { executions = put_row row.execution new m2.executions }
    → rows_over catalogue (count + 1) last m3 ≡ rows_after (rows_over catalogue count last old) record { who = who; call = Checkpoint w mark step; at = at; reply = reply }
checkpoint-entered catalogue count last old m1 m2 m3 who at w mark step reply row kept new element marked found is id same made e1 e2 e3 =
    let marks : (p : InstanceStep) → mark_at m1.checkpoints p ≡ cond (is_same_step p (place_at new (work_key row))) (Some mark) (mark_at old.checkpoints p) =
    λ p. mark-set (place_at new element) (Some marked) old m1 e1 p
    ∙ (ap (λ (i : WorkKey). cond (is_same_step p (place_at new i)) (Some marked) (mark_at old.checkpoints p)) id
    ∙ ap (λ (m : List ℕ). cond (is_same_step p (place_at new (work_key row))) (Some m) (mark_at old.checkpoints p)) same) in
    ap (rows_over catalogue (count + 1) last)
    (maps-changed old m1 m2 m3 m1.checkpoints (change_first (is_work w) (λ gone. kept)) (put_row row.execution new) (set-alone (place_at new element) (Some marked) old m1 e1) e2 e3)
    ∙ (ap (λ (k : WorkRow). rows_over catalogue (count + 1) last record { instances = old.instances; executions = put_row row.execution new old.executions; works = change_first (is_work w) (λ gone. k) old.works; checkpoints = m1.checkpoints }) is
    ∙ checkpoint_rows (rows_over catalogue count last old) who at w mark step reply row new (mark_at m1.checkpoints) found made marks)

pub finish-entered : (catalogue : List JobTree) (count : ℕ) (last : LastNumbers) (old m1 m2 m3 : Maps) (who at w : ℕ) (outcome : WorkOutcome) (exit : Option (List ℕ)) (step : MetricStep) (reply : Reply)
    (row kept : WorkRow) (new : Option ExecutionRow) (element : WorkKey)
    → find (is_work w) old.works ≡ Some row → kept ≡ over outcome exit step at (count + 1) row → element ≡ work_key row
    → new ≡ option_map (row_after Report catalogue (change_first (is_work w) (over outcome exit step at (count + 1)) old.works) at) (find (is_execution row.execution) old.executions)
    → LeavesMark outcome (place_at new element) old m1
    → m2 ≡ record m1 { works = change_first (is_work w) (λ gone. kept) m1.works }
    → m3 ≡ record m2 { executions = put_row row.execution new m2.executions }
    → rows_over catalogue (count + 1) last m3 ≡ rows_after (rows_over catalogue count last old) record { who = who; call = Finish w outcome exit step; at = at; reply = reply }
finish-entered catalogue count last old m1 m2 m3 who at w outcome exit step reply row kept new element found is id made e1 e2 e3 =
    let marks : (p : InstanceStep) → mark_at m1.checkpoints p ≡ cond (is_same_step p (place_at new (work_key row))) (checkpoint_left outcome (mark_at old.checkpoints p)) (mark_at old.checkpoints p) =
    λ p. mark-left outcome (place_at new element) old m1 e1 p
    ∙ ap (λ (i : WorkKey). cond (is_same_step p (place_at new i)) (checkpoint_left outcome (mark_at old.checkpoints p)) (mark_at old.checkpoints p)) id in
    ap (rows_over catalogue (count + 1) last)
    (maps-changed old m1 m2 m3 m1.checkpoints (change_first (is_work w) (λ gone. kept)) (put_row row.execution new) (left-alone outcome (place_at new element) old m1 e1) e2 e3)
    ∙ (ap (λ (k : WorkRow). rows_over catalogue (count + 1) last record { instances = old.instances; executions = put_row row.execution new old.executions; works = change_first (is_work w) (λ gone. k) old.works; checkpoints = m1.checkpoints }) is
    ∙ finish_rows (rows_over catalogue count last old) who at w outcome exit step reply row new (mark_at m1.checkpoints) found made marks)

pub change-entered : (catalogue : List JobTree) (count : ℕ) (last : LastNumbers) (old m : Maps) (x : ℕ) (f : ExecutionRow → ExecutionRow) (new : Option ExecutionRow)
    → new ≡ option_map f (find (is_execution x) old.executions)
    → m ≡ record old { executions = put_row x new old.executions }
    → rows_over catalogue (count + 1) last m
    ≡ record (rows_over catalogue count last old) { count = count + 1; executions = change_first (is_execution x) f old.executions }
change-entered catalogue count last old m x f new made e =
    ap (rows_over catalogue (count + 1) last) e
    ∙ ap (λ (xs : List ExecutionRow). rows_over catalogue (count + 1) last (record old { executions = xs }))
    (put_found x f old.executions new made)

pub work-entered : (catalogue : List JobTree) (count : ℕ) (last : LastNumbers) (old m1 m2 : Maps) (who at : ℕ) (item : WorkItem) (kept : WorkRow) (new : Option ExecutionRow)
    → kept ≡ busy_work who at item
    → new ≡ option_map (row_after TakeUp catalogue (old.works ++ busy_work who at item ∷ []) at) (find (is_execution item.execution) old.executions)
    → m1 ≡ record old { works = old.works ++ kept ∷ [] }
    → m2 ≡ record m1 { executions = put_row item.execution new m1.executions }
    → rows_over catalogue (count + 1) (record last { work = last.work + 1 }) m2
    ≡ rows_after (rows_over catalogue count last old) record { who = who; call = Claim; at = at; reply = Work item }
work-entered catalogue count last old m1 m2 who at item kept new is made e1 e2 =
    let next : LastNumbers = record last { work = last.work + 1 } in
    ap (rows_over catalogue (count + 1) next) (e2 ∙ ap (λ (m : Maps). record m { executions = put_row item.execution new m.executions }) e1)
    ∙ (ap (λ (k : WorkRow). rows_over catalogue (count + 1) next (record old { executions = put_row item.execution new old.executions; works = old.works ++ k ∷ [] })) is
    ∙ work_rows (rows_over catalogue count last old) who at item new made)

pub start-entered : (catalogue : List JobTree) (count : ℕ) (last : LastNumbers) (old m : Maps) (who at : ℕ) (job : List ℕ) (parameters : List Pair) (reply : Reply)
    (made : JobInstance) (row : ExecutionRow)
    → made ≡ record { instance = last.instance + 1; job = job } → row ≡ fresh_row (last.execution + 1) (last.instance + 1) at job parameters (first_plan (job_named catalogue job))
    → m ≡ record old { instances = old.instances ++ made ∷ []; executions = old.executions ++ row ∷ [] }
    → rows_over catalogue (count + 1) (record last { instance = last.instance + 1; execution = last.execution + 1 }) m
    ≡ rows_after (rows_over catalogue count last old) record { who = who; call = Start job parameters; at = at; reply = reply }
start-entered catalogue count last old m who at job parameters reply made row begun is e =
    let next : LastNumbers = record last { instance = last.instance + 1; execution = last.execution + 1 } in
    let rows : JobInstance → ExecutionRow → Rows = λ i r. rows_over catalogue (count + 1) next (record old { instances = old.instances ++ i ∷ []; executions = old.executions ++ r ∷ [] }) in
    ap (rows_over catalogue (count + 1) next) e
    ∙ (ap (λ (i : JobInstance). rows i row) begun
    ∙ ap (λ (r : ExecutionRow). rows record { instance = last.instance + 1; job = job } r) is)

pub restart-entered : (catalogue : List JobTree) (count : ℕ) (last : LastNumbers) (old m : Maps) (who at y : ℕ) (parameters : List Pair) (reply : Reply)
    (earlier row : ExecutionRow) → find (is_execution y) old.executions ≡ Some earlier
    → row ≡ fresh_row (last.execution + 1) earlier.instance at earlier.job parameters (restart_plan (rows_over catalogue count last old) earlier)
    → m ≡ record old { executions = old.executions ++ row ∷ [] }
    → rows_over catalogue (count + 1) (record last { execution = last.execution + 1 }) m
    ≡ rows_after (rows_over catalogue count last old) record { who = who; call = Restart y parameters; at = at; reply = reply }
restart-entered catalogue count last old m who at y parameters reply earlier row found is e =
    let next : LastNumbers = record last { execution = last.execution + 1 } in
    let rows : ExecutionRow → Rows = λ r. rows_over catalogue (count + 1) next (record old { executions = old.executions ++ r ∷ [] }) in
    ap (rows_over catalogue (count + 1) next) e
    ∙ (ap rows is
    ∙ ap (λ (o : Option ExecutionRow). rows (again_row (rows_over catalogue count last old) (last.execution + 1) at parameters o)) (sym found))
