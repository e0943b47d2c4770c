-- The bounds of a command's texts. The definitions take a command with texts of any length to one whose texts
-- are within their bounds.
use Rattle.std.specs.Prelude.{ℕ, List, length, nat_le, Option, Some, None, option_map, if◌then◌else◌}
use Rattle.batch_history.specs.declared.call.Call.{Call}
use Rattle.batch_history.specs.declared.call.Call.TheVariants.{Start, Restart, Stop, Abandon, Claim, Checkpoint, Finish, Lose, Purge}
use Rattle.batch_history.specs.declared.query.Query.{Query}
use Rattle.batch_history.specs.declared.query.Query.TheVariants.{JobNames, JobInstanceCount, JobInstances, RunningExecutions, Parameters, JobInstance, JobExecutions, JobExecution, StepExecutions, StatusCounts}
use Rattle.json_members.specs.Chains.{◌>>=◌}
use Rattle.script_text.specs.Parameters.{parameters_within}

-- a text that has at most `most` bytes
abbrev pub text_within : ℕ → List ℕ → Option (List ℕ)
text_within most text = if nat_le (length text) most then Some text else None

-- an exit status that may be left out
abbrev pub exit_within : Option (List ℕ) → Option (Option (List ℕ))
exit_within None = Some None
exit_within (Some exit) = option_map Some (text_within 256 exit)

-- the call, if each of its texts is within its bound
abbrev pub call_within : Call → Option Call
call_within (Start job given) = do
  name ← text_within 256 job
  parameters ← parameters_within given
  Some (Start name parameters)
call_within (Restart execution given) = option_map (Restart execution) (parameters_within given)
call_within (Stop execution) = Some (Stop execution)
call_within (Abandon execution) = Some (Abandon execution)
call_within Claim = Some Claim
call_within (Checkpoint work mark step) = do
  short ← text_within 65536 mark
  Some (Checkpoint work short step)
call_within (Finish work outcome exit step) = do
  short ← exit_within exit
  Some (Finish work outcome short step)
call_within (Lose work) = Some (Lose work)
call_within (Purge instance) = Some (Purge instance)

-- the query, if the name of its job is within its bound
abbrev pub query_within : Query → Option Query
query_within JobNames = Some JobNames
query_within (JobInstanceCount job) = option_map JobInstanceCount (text_within 256 job)
query_within (JobInstances job start count) = do
  name ← text_within 256 job
  Some (JobInstances name start count)
query_within (RunningExecutions job) = option_map RunningExecutions (text_within 256 job)
query_within (Parameters execution) = Some (Parameters execution)
query_within (JobInstance execution) = Some (JobInstance execution)
query_within (JobExecutions instance) = Some (JobExecutions instance)
query_within (JobExecution execution) = Some (JobExecution execution)
query_within (StepExecutions execution) = Some (StepExecutions execution)
query_within StatusCounts = Some StatusCounts
