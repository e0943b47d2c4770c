-- Jobs under other names.
use Rattle.std.specs.Prelude.{ℕ, ◌≡◌, true, Option, Some, None, is_some, List, map}
use Rattle.jsl_model.specs.Jobs.{JobTree}
use Rattle.batch_history.specs.declared.call.Call.{Call}
use Rattle.batch_history.specs.declared.call.Call.TheVariants.{Start, Restart, Stop, Abandon, Claim, Checkpoint, Finish, Lose, Purge}
use Rattle.batch_history.specs.declared.call.Entry.{Entry}
use Rattle.batch_history.specs.declared.rows.ExecutionRow.{ExecutionRow}
use Rattle.batch_history.specs.declared.rows.JobInstance.{JobInstance}
use Rattle.batch_history.specs.Rows.{Rows}
use Rattle.batch_history.specs.Walks.{job_named}

-- two jobs run alike: they have the same elements, and may both be restarted, or neither
pub record RunAlike (one other : JobTree) : Type 0 where
  pub restartable : other.restartable ≡ one.restartable
  pub elements : other.elements ≡ one.elements

-- there are two jobs that run alike, or none
abbrev pub AreAlike : Option JobTree → Option JobTree → Type 0
AreAlike None None = Unit {0}
AreAlike None (Some other) = ⊥
AreAlike (Some one) None = ⊥
AreAlike (Some one) (Some other) = RunAlike one other

-- each job of a catalogue has another name in another catalogue, and runs alike there
abbrev pub HasRenamed : (List ℕ → List ℕ) → List JobTree → List JobTree → Type 0
HasRenamed name_of catalogue other = (name : List ℕ) → is_some (job_named catalogue name) ≡ true → AreAlike (job_named catalogue name) (job_named other (name_of name))

module _ (name_of : List ℕ → List ℕ) where
  -- a call that starts the job by its other name
  abbrev pub call_renamed : Call → Call
  call_renamed (Start job parameters) = Start (name_of job) parameters
  call_renamed (Restart x parameters) = Restart x parameters
  call_renamed (Stop x) = Stop x
  call_renamed (Abandon x) = Abandon x
  call_renamed Claim = Claim
  call_renamed (Checkpoint w mark step) = Checkpoint w mark step
  call_renamed (Finish w outcome exit step) = Finish w outcome exit step
  call_renamed (Lose w) = Lose w
  call_renamed (Purge i) = Purge i

  abbrev pub entry_renamed : Entry → Entry
  entry_renamed e = record e { call = call_renamed e.call }

  abbrev pub instance_renamed : JobInstance → JobInstance
  instance_renamed row = record row { job = name_of row.job }

  abbrev pub execution_renamed : ExecutionRow → ExecutionRow
  execution_renamed row = record row { job = name_of row.job }

  -- the rows over another catalogue, with the other names of the jobs
  abbrev pub rows_renamed : List JobTree → Rows → Rows
  rows_renamed other r = record r { catalogue = other; instances = map instance_renamed r.instances; executions = map execution_renamed r.executions }
