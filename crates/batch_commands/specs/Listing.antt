-- The output about the job executions of a run.
use Rattle.std.specs.Prelude.{◌≡◌, ℕ, zero, suc, List, [], ◌++◌, Result, Ok, Err}
use mathlib.Core.List.{IsPrefix}
use Rattle.batch_ids.specs.declared.refusal.Refusal.{Refusal}
use Rattle.jsl_model.specs.Jobs.{JobTree}
use Rattle.batch_history.specs.Answers.{answer}
use Rattle.batch_history.specs.Rows.{History, history}
use Rattle.batch_history.specs.declared.call.Entry.{Entry}
use Rattle.batch_history.specs.declared.query.Answer.{Answer}
use Rattle.batch_history.specs.declared.query.Answer.TheVariants as answers
use Rattle.batch_history.specs.declared.query.JobExecution.{JobExecution as ExecutionRecord}
use Rattle.batch_history.specs.declared.query.Query.TheVariants.{StepExecutions, JobExecution}
use Rattle.script_text.specs.Replies.{reply_text}
use Rattle.script_text.specs.Runs.{execution_text}

-- the line of a job execution with its step executions, for the answer about these, which is always of this
-- kind
abbrev pub text_with : ExecutionRecord → Answer → List ℕ
text_with execution (answers.StepExecutions steps) = execution_text execution steps
text_with execution _ = []

-- the line of a job execution, for the answers about its step executions and about itself
abbrev pub text_of : Answer → Answer → List ℕ
text_of steps (answers.JobExecution execution) = text_with execution steps
text_of steps _ = []

-- the line of a job execution, or that of a refusal, if one of the two answers is a refusal
abbrev pub listed_text : Result Answer Refusal → Result Answer Refusal → List ℕ
listed_text (Err refusal) execution = reply_text (Err refusal)
listed_text (Ok steps) (Err refusal) = reply_text (Err refusal)
listed_text (Ok steps) (Ok execution) = text_of steps execution

-- the line of job execution x: its step executions are queried after one history, and its own record after
-- another
abbrev pub execution_line : History → History → ℕ → List ℕ
execution_line h h' x = listed_text (answer h (StepExecutions x)) (answer h' (JobExecution x))

-- THE JOB EXECUTIONS 1 to n, a line each, in ascending order. Each is queried after some more operations of
-- one history, which other sessions may have added
abbrev pub AreListed : List JobTree → List Entry → ℕ → List ℕ → List Entry → Type 0
AreListed catalogue seen zero text last = (text ≡ []) × IsPrefix seen last
AreListed catalogue seen (suc n) text last =
    (before : List Entry) × (log : List Entry) × (earlier : List ℕ) × AreListed catalogue seen n earlier before × IsPrefix before log × IsPrefix log last
    × (text ≡ earlier ++ execution_line (history catalogue log) (history catalogue last) (suc n))
