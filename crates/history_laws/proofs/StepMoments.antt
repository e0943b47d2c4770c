-- The law of the end of a partitioned step in a job execution, over histories.
use Rattle.std.proofs.Common.{◌≡◌, ◌≢◌, ◌||◌, ℕ, Bool, true, false, cond, Option, None, Some, List, [], ◌∷◌, ◌++◌, find, reverse, refl, sym, ◌∙◌, ap, subst}
use Rattle.std.specs.List.{list_any}
use Rattle.std.specs.Option.{option_and_then}
use Rattle.std.proofs.lemmas.List.{append_assoc, reverse-append, reverse-reverse}
use Rattle.batch_ids.specs.Statuses.{status_name}
use Rattle.batch_ids.specs.declared.status.BatchStatus.{BatchStatus}
use Rattle.batch_ids.specs.declared.status.BatchStatus.TheVariants.{Started, Stopped, Failed, Completed}
use Rattle.jsl_model.specs.Catalogues.{AreJobs}
use Rattle.jsl_model.specs.Jobs.{JobTree}
use Rattle.jsl_model.specs.declared.element.Task.{Task}
use Rattle.batch_history.specs.Executions.{Made}
use Rattle.batch_history.specs.Legal.{IsLegal}
use Rattle.batch_history.specs.Rows.{History}
use Rattle.batch_history.specs.StepExecutions.{end_of_partitions, is_failed, is_stopped, last_ended, once_over, shown_partitions, status_of_partitions}
use Rattle.batch_history.specs.Walks.{job_named}
use Rattle.batch_history.specs.declared.call.Entry.{Entry}
use Rattle.batch_history.specs.declared.query.StepExecution.{StepExecution}
use Rattle.batch_history.specs.declared.rows.ExecutionRow.{ExecutionRow}
use Rattle.batch_history.specs.declared.rows.WorkRow.{WorkRow}
use Rattle.batch_history.proofs.Finished.{on-it, made-after}
use Rattle.batch_history.proofs.Folds.{made, is_made, end_of, execution_row}
use Rattle.batch_history.proofs.Legal.{legal-beginning}
use Rattle.batch_history.proofs.Legality.{past-due}
use Rattle.batch_history.proofs.Told.{made-more}
use Rattle.history_laws.specs.Laws.{beginning, row_in}
use Rattle.history_laws.specs.StepExecutions.{steps_in, step_among, step_in, IsPartitioned, StepEnds}
use Rattle.history_laws.proofs.Beginnings.{row-folded, IsRowAt, row-at}
use Rattle.history_laws.proofs.StepEnds.{step_end, StepEndedPast, step-ended, has_some, end_by}
use Rattle.history_laws.proofs.StepItems.{items, leaves_some, is_running, is_going, goes_on}
use Rattle.history_laws.proofs.StepLeaves.{IsPartitionedOf}
use Rattle.history_laws.proofs.StepShown.{IsShown, shown-by, shown_of, step-shown}

-- ---- Once it does not go on

-- the status of partitions that do not go on
abbrev pub status_over : Bool → List WorkRow → BatchStatus
status_over left rows =
    cond (list_any (λ row. is_failed row.state) rows) Failed (cond (left || list_any (λ row. is_stopped row.state) rows) Stopped Completed)

-- their exit status
abbrev pub exit_by : Bool → Bool → List WorkRow → Option (List ℕ)
exit_by unfinished left rows = cond (goes_on unfinished left rows) None (Some (status_name (status_over left rows)))

over-shown : {X : Type 0} (left : Bool) (rows : List WorkRow) (shown : Option X) → once_over (status_over left rows) shown ≡ shown
over-shown left rows shown =
    elim (list_any (λ (row : WorkRow). is_failed row.state) rows) as (λ b. once_over (cond b Failed (cond (left || list_any (λ (row : WorkRow). is_stopped row.state) rows) Stopped Completed)) shown ≡ shown) [
      | true ↦ refl
      | false ↦ elim (left || list_any (λ (row : WorkRow). is_stopped row.state) rows) as (λ b. once_over (cond b Stopped Completed) shown ≡ shown) [
        | true ↦ refl
        | false ↦ refl
      ]
    ]

end-shown : (unfinished left : Bool) (rows : List WorkRow) (end : Option ℕ)
    → once_over (status_of_partitions unfinished left rows) (end_of_partitions left rows end) ≡ end_by unfinished left rows end
end-shown unfinished left rows end =
    on-it (goes_on unfinished left rows)
    (λ on. ap (λ b. once_over (cond b Started (status_over left rows)) (end_of_partitions left rows end)) on
    ∙ sym (ap (λ b. cond b None (end_of_partitions left rows end)) on))
    (λ off. ap (λ b. once_over (cond b Started (status_over left rows)) (end_of_partitions left rows end)) off
    ∙ (over-shown left rows (end_of_partitions left rows end) ∙ sym (ap (λ b. cond b None (end_of_partitions left rows end)) off)))

exit-shown : (unfinished left : Bool) (rows : List WorkRow)
    → once_over (status_of_partitions unfinished left rows) (Some (status_name (status_of_partitions unfinished left rows))) ≡ exit_by unfinished left rows
exit-shown unfinished left rows =
    on-it (goes_on unfinished left rows)
    (λ on. ap (λ b. once_over (cond b Started (status_over left rows)) (Some (status_name (cond b Started (status_over left rows))))) on
    ∙ sym (ap (λ b. cond b None (Some (status_name (status_over left rows)))) on))
    (λ off. ap (λ b. once_over (cond b Started (status_over left rows)) (Some (status_name (cond b Started (status_over left rows))))) off
    ∙ (over-shown left rows (Some (status_name (status_over left rows))) ∙ sym (ap (λ b. cond b None (Some (status_name (status_over left rows)))) off)))

-- ---- What is shown

-- what a step execution shows, by its work items
pub record Shows (catalogue : List JobTree) (past : List Entry) (m : Made) (step : List ℕ) (n : ℕ) (shown : StepExecution) : Type 0 where
  pub some : has_some (items past m.execution step) ≡ true
  pub status : shown.status ≡ status_of_partitions (is_running catalogue past m) (leaves_some catalogue past m.execution step n) (items past m.execution step)
  pub end : shown.end ≡ step_end catalogue past m step n
  pub exit : shown.exit ≡ exit_by (is_running catalogue past m) (leaves_some catalogue past m.execution step n) (items past m.execution step)

shows-by : (catalogue : List JobTree) (past : List Entry) (m : Made) (step : List ℕ) (n : ℕ) (rows : List WorkRow) (shown : StepExecution)
    → items past m.execution step ≡ rows → shown_of catalogue past m step n rows ≡ Some shown → Shows catalogue past m step n shown
shows-by catalogue past m step n [] shown is h = cc
shows-by catalogue past m step n (first ∷ rest) shown is h =
    let same : shown_partitions (execution_row catalogue past m) (leaves_some catalogue past m.execution step n) (first ∷ rest) first ≡ shown = cc in
    record {
      some = ap has_some is;
      status = sym (ap (λ (s : StepExecution). s.status) same)
          ∙ ap (status_of_partitions (is_running catalogue past m) (leaves_some catalogue past m.execution step n)) (sym is);
      end = sym (ap (λ (s : StepExecution). s.end) same)
          ∙ (end-shown (is_running catalogue past m) (leaves_some catalogue past m.execution step n) (first ∷ rest) (end_of catalogue past m)
          ∙ ap (λ l. end_by (is_running catalogue past m) (leaves_some catalogue past m.execution step n) l (end_of catalogue past m)) (sym is));
      exit = sym (ap (λ (s : StepExecution). s.exit) same)
          ∙ (exit-shown (is_running catalogue past m) (leaves_some catalogue past m.execution step n) (first ∷ rest)
          ∙ ap (exit_by (is_running catalogue past m) (leaves_some catalogue past m.execution step n)) (sym is));
    }

pub shows : (limit : ℕ) (h : History) → IsLegal limit h → (m : Made) (step : List ℕ) (n : ℕ) (task : Task)
    → find (is_made m.execution) (made (reverse h.log)) ≡ Some m → IsPartitionedOf (job_named h.catalogue m.job) step n task
    → (shown : StepExecution) → step_in h m.execution step ≡ Some shown → Shows h.catalogue (reverse h.log) m step n shown
shows limit h legal m step n task found part shown is =
    shows-by h.catalogue (reverse h.log) m step n (items (reverse h.log) m.execution step) shown refl (sym (step-shown limit h legal m step n task found part) ∙ is)

-- where it has a work item, something is shown
some-shown : (catalogue : List JobTree) (past : List Entry) (m : Made) (step : List ℕ) (n : ℕ) (rows : List WorkRow) → has_some rows ≡ true
    → (shown : StepExecution) × (shown_of catalogue past m step n rows ≡ Some shown)
some-shown catalogue past m step n [] h = cc
some-shown catalogue past m step n (first ∷ rest) h =
    (shown_partitions (execution_row catalogue past m) (leaves_some catalogue past m.execution step n) (first ∷ rest) first, refl)

-- ---- STARTED while it goes on

over-other : (left : Bool) (rows : List WorkRow) → status_over left rows ≢ Started
over-other left rows =
    elim (list_any (λ (row : WorkRow). is_failed row.state) rows) as (λ b. cond b Failed (cond (left || list_any (λ (row : WorkRow). is_stopped row.state) rows) Stopped Completed) ≢ Started) [
      | true ↦ λ h. cc
      | false ↦ elim (left || list_any (λ (row : WorkRow). is_stopped row.state) rows) as (λ b. cond b Stopped Completed ≢ Started) [
        | true ↦ λ h. cc
        | false ↦ λ h. cc
      ]
    ]

going-started : (unfinished left : Bool) (rows : List WorkRow) → goes_on unfinished left rows ≡ true → status_of_partitions unfinished left rows ≡ Started
going-started unfinished left rows on = ap (λ b. cond b Started (status_over left rows)) on

stopped-other : (unfinished left : Bool) (rows : List WorkRow) → goes_on unfinished left rows ≡ false → status_of_partitions unfinished left rows ≢ Started
stopped-other unfinished left rows off h =
    over-other left rows (sym (ap (λ b. cond b Started (status_over left rows)) off) ∙ h)

started-goes : (unfinished left : Bool) (rows : List WorkRow) → status_of_partitions unfinished left rows ≡ Started → goes_on unfinished left rows ≡ true
started-goes unfinished left rows h =
    on-it (goes_on unfinished left rows) (λ on. on) (λ off. absurd (stopped-other unfinished left rows off h))

other-over : (unfinished left : Bool) (rows : List WorkRow) → status_of_partitions unfinished left rows ≢ Started → goes_on unfinished left rows ≡ false
other-over unfinished left rows h =
    on-it (goes_on unfinished left rows) (λ on. absurd (h (going-started unfinished left rows on))) (λ off. off)

end-going : (unfinished left : Bool) (rows : List WorkRow) (end : Option ℕ) → goes_on unfinished left rows ≡ true → end_by unfinished left rows end ≡ None
end-going unfinished left rows end on = ap (λ b. cond b None (cond left end (option_and_then (λ (row : WorkRow). row.end) (last_ended rows)))) on

-- ---- The laws

-- a step execution that is STARTED has no end
pub open_end : (limit : ℕ) (h : History) → IsLegal limit h → AreJobs h.catalogue → (x n : ℕ) (step : List ℕ) → IsPartitioned h x step n
    → (shown : StepExecution) → step_in h x step ≡ Some shown → shown.status ≡ Started → shown.end ≡ None
open_end limit h legal jobs x n step p shown is started =
    let past : List Entry = reverse h.log in
    let by : IsShown h x step n = shown-by limit h legal jobs x step n p in
    let s : Shows h.catalogue past by.one step n shown =
    shows limit h legal by.one step n by.task by.found by.part shown (ap (λ y. step_in h y step) by.number ∙ is) in
    let on = started-goes (is_running h.catalogue past by.one) (leaves_some h.catalogue past by.one.execution step n) (items past by.one.execution step) (sym s.status ∙ started) in
    s.end ∙ end-going (is_running h.catalogue past by.one) (leaves_some h.catalogue past by.one.execution step n) (items past by.one.execution step)
    (end_of h.catalogue past by.one) on

-- a job execution that is shown was made
made-shown : (limit : ℕ) (then : History) → IsLegal limit then → (m : Made) (step : List ℕ) (n x : ℕ) → m.execution ≡ x → (before rest : List Entry) → before ≡ then.log ++ rest
    → find (is_made m.execution) (made (reverse before)) ≡ Some m → (earlier : StepExecution) → step_in then x step ≡ Some earlier
    → find (is_made m.execution) (made (reverse then.log)) ≡ Some m
made-shown limit then legal m step n x number before rest is found earlier there =
    (elim (row_in then x) as (λ o. row_in then x ≡ o → find (is_made m.execution) (made (reverse then.log)) ≡ Some m) [
      | None ↦ λ none. absurd (let bad : None ≡ Some earlier = sym (ap (option_and_then (λ (row : ExecutionRow). step_among step (steps_in then row))) none) ∙ there in cc)
      | Some row ↦ λ here.
          let from : IsRowAt then.catalogue (reverse then.log) x row = row-at then.catalogue (reverse then.log) x row (sym (row-folded limit then legal x) ∙ here) in
          let k : Made = from.one in
          let later : find (is_made k.execution) (made (reverse before)) ≡ Some k =
          ap (λ l. find (is_made k.execution) (made l)) (ap reverse is ∙ reverse-append then.log rest) ∙ made-after (reverse rest) (reverse then.log) k.execution k from.found in
          let same : k.execution ≡ m.execution = from.number ∙ sym number in
          let one : k ≡ m = let both : Some k ≡ Some m = sym later ∙ (ap (λ y. find (is_made y) (made (reverse before))) same ∙ found) in cc in
          subst (λ (z : Made). find (is_made z.execution) (made (reverse then.log)) ≡ Some z) one from.found
    ]) refl

-- before that operation it was STARTED, wherever it was shown
earlier-started : (limit : ℕ) (h : History) → IsLegal limit h → (m : Made) (step : List ℕ) (n : ℕ) (task : Task) → IsPartitionedOf (job_named h.catalogue m.job) step n task
    → (x : ℕ) → m.execution ≡ x → (before after : List Entry) → h.log ≡ before ++ after
    → ((more old : List Entry) → reverse before ≡ more ++ old → find (is_made m.execution) (made old) ≡ Some m → is_going h.catalogue old m step n ≡ true)
    → find (is_made m.execution) (made (reverse before)) ≡ Some m
    → (first rest : List Entry) → before ≡ first ++ rest → (earlier : StepExecution) → step_in (beginning h first) x step ≡ Some earlier → earlier.status ≡ Started
earlier-started limit h legal m step n task part x number before after cut until made_before first rest is earlier there =
    let then : History = beginning h first in
    let legal_then : IsLegal limit then = legal-beginning limit h legal first (rest ++ after) (cut ∙ (ap (λ l. l ++ after) is ∙ append_assoc first rest after)) in
    let made_then : find (is_made m.execution) (made (reverse first)) ≡ Some m = made-shown limit then legal_then m step n x number before rest is made_before earlier there in
    let s : Shows h.catalogue (reverse first) m step n earlier =
    shows limit then legal_then m step n task made_then part earlier (ap (λ y. step_in then y step) number ∙ there) in
    let on : is_going h.catalogue (reverse first) m step n ≡ true = until (reverse rest) (reverse first) (ap reverse is ∙ reverse-append first rest) made_then in
    s.status ∙ going-started (is_running h.catalogue (reverse first) m) (leaves_some h.catalogue (reverse first) m.execution step n) (items (reverse first) m.execution step) on

-- and it ends by the first operation after which it is not STARTED
pub ends_then : (limit : ℕ) (h : History) → IsLegal limit h → AreJobs h.catalogue → (x n : ℕ) (step : List ℕ) → IsPartitioned h x step n
    → (shown : StepExecution) → step_in h x step ≡ Some shown → shown.status ≢ Started → StepEnds h x step shown.end
ends_then limit h legal jobs x n step p shown is other =
    let past : List Entry = reverse h.log in
    let by : IsShown h x step n = shown-by limit h legal jobs x step n p in
    let m : Made = by.one in
    let s : Shows h.catalogue past m step n shown = shows limit h legal m step n by.task by.found by.part shown (ap (λ y. step_in h y step) by.number ∙ is) in
    let off : is_going h.catalogue past m step n ≡ false =
    other-over (is_running h.catalogue past m) (leaves_some h.catalogue past m.execution step n) (items past m.execution step) (λ started. other (s.status ∙ started)) in
    let c : StepEndedPast h.catalogue past m step n =
    step-ended limit h.catalogue past m step n by.task (past-due limit h legal) by.found by.part s.some off in
    let whole : h.log ≡ reverse c.older ++ c.entry ∷ reverse c.later =
    sym (reverse-reverse h.log) ∙ (ap reverse c.cut ∙ (reverse-append c.later (c.entry ∷ c.older)
    ∙ (ap (λ l. l ++ reverse c.later) (reverse-append (c.entry ∷ []) c.older) ∙ append_assoc (reverse c.older) (c.entry ∷ []) (reverse c.later)))) in
    let one_more : h.log ≡ (reverse c.older ++ c.entry ∷ []) ++ reverse c.later =
    whole ∙ sym (append_assoc (reverse c.older) (c.entry ∷ []) (reverse c.later)) in
    let then : History = beginning h (reverse c.older ++ c.entry ∷ []) in
    let then_past : reverse then.log ≡ c.entry ∷ c.older =
    reverse-append (reverse c.older) (c.entry ∷ []) ∙ ap (λ l. c.entry ∷ l) (reverse-reverse c.older) in
    let legal_then : IsLegal limit then = legal-beginning limit h legal (reverse c.older ++ c.entry ∷ []) (reverse c.later) one_more in
    let made_then : find (is_made m.execution) (made (reverse then.log)) ≡ Some m =
    ap (λ l. find (is_made m.execution) (made l)) then_past ∙ made-more c.older c.entry m.execution m c.found in
    let some_then : has_some (items (reverse then.log) m.execution step) ≡ true =
    ap (λ l. has_some (items l m.execution step)) then_past ∙ (ap has_some (sym c.same) ∙ s.some) in
    let now = some-shown h.catalogue (reverse then.log) m step n (items (reverse then.log) m.execution step) some_then in
    let shown_then : step_in then m.execution step ≡ Some now.0 = step-shown limit then legal_then m step n by.task made_then by.part ∙ now.1 in
    let shows_then : Shows h.catalogue (reverse then.log) m step n now.0 = shows limit then legal_then m step n by.task made_then by.part now.0 shown_then in
    let off_then : is_going h.catalogue (reverse then.log) m step n ≡ false = ap (λ l. is_going h.catalogue l m step n) then_past ∙ c.stopped in
    record {
      before = reverse c.older;
      entry = c.entry;
      after = reverse c.later;
      cut = whole;
      moment = s.end ∙ c.moment;
      then_shown = now.0;
      found = ap (λ y. step_in then y step) (sym by.number) ∙ shown_then;
      stopped = λ started. stopped-other (is_running h.catalogue (reverse then.log) m) (leaves_some h.catalogue (reverse then.log) m.execution step n) (items (reverse then.log) m.execution step)
          off_then (sym shows_then.status ∙ started);
      until = λ first rest is_cut earlier there.
          earlier-started limit h legal m step n by.task by.part x by.number (reverse c.older) (c.entry ∷ reverse c.later) whole
          (λ more old cut_old made_old. c.until more old (sym (reverse-reverse c.older) ∙ cut_old) made_old)
          (ap (λ l. find (is_made m.execution) (made l)) (reverse-reverse c.older) ∙ c.found)
          first rest is_cut earlier there;
    }
