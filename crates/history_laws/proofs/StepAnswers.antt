-- The step executions that a query is answered are those of the job execution: a purge of another job instance leaves them.
use Rattle.std.proofs.Common.{◌≡◌, ℕ, ◌==◌, Bool, false, not, Option, None, Some, Ok, List, find, filter, reverse, refl, sym, ◌∙◌, ap}
use Rattle.std.specs.List.{filter_map}
use Rattle.std.specs.Option.{option_map}
use Rattle.std.proofs.lemmas.Bool.{eqb-true}
use Rattle.batch_history.specs.Answers.{answer, if_execution_known}
use Rattle.batch_history.specs.Legal.{IsLegal}
use Rattle.batch_history.specs.Purges.{is_purged}
use Rattle.batch_history.specs.Replies.{is_execution}
use Rattle.batch_history.specs.Rows.{History, Rows, existing, instance_in, is_gone, rows, works_there}
use Rattle.batch_history.specs.StepExecutions.{step_execution, step_executions}
use Rattle.batch_history.specs.Walks.{job_named}
use Rattle.batch_history.specs.declared.call.Entry.{Entry}
use Rattle.batch_history.specs.declared.query.Answer.TheVariants.{StepExecutions as AreStepExecutions}
use Rattle.batch_history.specs.declared.query.Query.TheVariants.{StepExecutions as AskStepExecutions}
use Rattle.batch_history.specs.declared.query.StepExecution.{StepExecution}
use Rattle.batch_history.specs.declared.rows.ExecutionRow.{ExecutionRow}
use Rattle.batch_history.specs.declared.rows.WorkRow.{WorkRow}
use Rattle.batch_history.proofs.Existing.{IsLeft, execution-left, is_left, not-true}
use Rattle.batch_history.proofs.Finding.{found-passes}
use Rattle.batch_history.proofs.Folds.{folded_rows}
use Rattle.batch_history.proofs.Legality.{all_rows_folded, past-due, past-due-there, rows_folded}
use Rattle.batch_history.proofs.Purged.{all-whole}
use Rattle.history_laws.specs.StepExecutions.{AreStepsOf}
use Rattle.history_laws.proofs.Beginnings.{row-folded}
use Rattle.history_laws.proofs.Numbers.{filter-within}

-- the work items of a job execution whose job instance is not gone are left
works-left : (gone : ℕ → Bool) (r : Rows) (x : ℕ) → is_gone gone (instance_in r.executions x) ≡ false
    → filter (λ (row : WorkRow). row.execution == x) (works_there gone r.executions r.works) ≡ filter (λ (row : WorkRow). row.execution == x) r.works
works-left gone r x there =
    filter-within (λ (row : WorkRow). not (is_gone gone (instance_in r.executions row.execution))) (λ (row : WorkRow). row.execution == x) r.works
    (λ row on. ap (λ y. not (is_gone gone (instance_in r.executions y))) (eqb-true row.execution x on) ∙ ap not there)

steps-left : (gone : ℕ → Bool) (r : Rows) (row : ExecutionRow) → is_gone gone (instance_in r.executions row.execution) ≡ false
    → step_executions (existing gone r) row ≡ step_executions r row
steps-left gone r row there =
    ap (λ (works : List WorkRow). filter_map (step_execution (job_named r.catalogue row.job) row works) works) (works-left gone r row.execution there)

known-answer : (o : Option ExecutionRow) (f : ExecutionRow → List StepExecution) (steps : List StepExecution)
    → if_execution_known o (λ row. AreStepExecutions (f row)) ≡ Ok (AreStepExecutions steps) → (row : ExecutionRow) × (o ≡ Some row) × (steps ≡ f row)
known-answer None f steps h = cc
known-answer (Some row) f steps h = (row, refl, (let same : AreStepExecutions (f row) ≡ AreStepExecutions steps = cc in let is : f row ≡ steps = cc in sym is))

pub steps_answered : (limit : ℕ) (h : History) → IsLegal limit h → (x : ℕ) (steps : List StepExecution)
    → answer h (AskStepExecutions x) ≡ Ok (AreStepExecutions steps) → AreStepsOf h x steps
steps_answered limit h legal x steps answered =
    let past : List Entry = reverse h.log in
    let gone : ℕ → Bool = is_purged past in
    let r : Rows = folded_rows h.catalogue past in
    let told = known-answer (find (is_execution x) (rows h).executions) (step_executions (rows h)) steps answered in
    let row : ExecutionRow = told.0 in
    let there : IsLeft (is_left gone) (find (is_execution x) r.executions) row =
    execution-left gone r x row (all-whole limit h.catalogue past (past-due limit h legal) (past-due-there limit h legal))
    (sym (ap (λ (s : Rows). find (is_execution x) s.executions) (rows_folded limit h legal)) ∙ told.1) in
    let number : row.execution ≡ x = eqb-true row.execution x (found-passes (is_execution x) r.executions row there.found) in
    let left : is_gone gone (instance_in r.executions row.execution) ≡ false =
    ap (λ y. is_gone gone (instance_in r.executions y)) number
    ∙ (ap (λ (o : Option ExecutionRow). is_gone gone (option_map (λ (row : ExecutionRow). row.instance) o)) there.found ∙ not-true (gone row.instance) there.left) in
    record {
      row = row;
      found = row-folded limit h legal x ∙ there.found;
      same = told.2
          ∙ (ap (λ (s : Rows). step_executions s row) (rows_folded limit h legal)
          ∙ (steps-left gone r row left ∙ sym (ap (λ (s : Rows). step_executions s row) (all_rows_folded limit h legal))));
    }
