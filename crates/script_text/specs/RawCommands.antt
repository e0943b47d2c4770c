-- The command, call or query of a raw one, whose texts are borrowed from its line.
use Rattle.std.specs.Prelude.{List, [], Option, Some, None, option_map, unwrap_or}
use Rattle.serde_json.specs.Data.{Data}
use Rattle.batch_ids.specs.Parameters.{Pair}
use Rattle.batch_history.specs.declared.call.Call.{Call}
use Rattle.batch_history.specs.declared.call.Call.TheVariants.{Start, Restart, Stop, Abandon, Claim, Checkpoint, Finish, Lose, Purge}
use Rattle.batch_history.specs.declared.query.Query.{Query}
use Rattle.batch_history.specs.declared.query.Query.TheVariants.{JobNames, JobInstanceCount, JobInstances, RunningExecutions, Parameters, JobInstance, JobExecutions, JobExecution, StepExecutions, StatusCounts}
use Rattle.lent_json.specs.TextObjects.{texts_data}
use Rattle.lent_json.specs.declared.texts.Texts.{Texts}
use Rattle.script_text.specs.Parameters.{given_pairs}
use Rattle.script_text.specs.declared.command.Command.{Command}
use Rattle.script_text.specs.Commands.{command_of_data}
use Rattle.script_text.specs.declared.command.Command.TheVariants.{BadLine, Act, Ask}
use Rattle.script_text.specs.declared.raw.RawCall.{RawCall}
use Rattle.script_text.specs.declared.raw.RawCall.TheVariants as raw_calls
use Rattle.script_text.specs.declared.raw.RawQuery.{RawQuery}
use Rattle.script_text.specs.declared.raw.RawQuery.TheVariants as raw_queries
use Rattle.script_text.specs.declared.raw.RawCommand.{RawCommand}
use Rattle.script_text.specs.declared.raw.RawCommand.TheVariants as raw_commands

-- the keys and values of an object of texts, if there is one
abbrev pub pairs_in : Option Texts → List Pair
pairs_in None = []
pairs_in (Some texts) = given_pairs (texts_data texts)

-- the call of a raw call
abbrev pub call_in : RawCall → Call
call_in (raw_calls.Start job parameters) = Start job.now (pairs_in parameters)
call_in (raw_calls.Restart execution parameters) = Restart execution (pairs_in parameters)
call_in (raw_calls.Stop execution) = Stop execution
call_in (raw_calls.Abandon execution) = Abandon execution
call_in raw_calls.Claim = Claim
call_in (raw_calls.Checkpoint work mark step) = Checkpoint work mark.now step
call_in (raw_calls.Finish work outcome exit step) = Finish work outcome (option_map (λ text. text.now) exit) step
call_in (raw_calls.Lose work) = Lose work
call_in (raw_calls.Purge instance) = Purge instance

-- the query of a raw query
abbrev pub query_in : RawQuery → Query
query_in raw_queries.JobNames = JobNames
query_in (raw_queries.JobInstanceCount job) = JobInstanceCount job.now
query_in (raw_queries.JobInstances job start count) = JobInstances job.now start count
query_in (raw_queries.RunningExecutions job) = RunningExecutions job.now
query_in (raw_queries.Parameters execution) = Parameters execution
query_in (raw_queries.JobInstance execution) = JobInstance execution
query_in (raw_queries.JobExecutions instance) = JobExecutions instance
query_in (raw_queries.JobExecution execution) = JobExecution execution
query_in (raw_queries.StepExecutions execution) = StepExecutions execution
query_in raw_queries.StatusCounts = StatusCounts

-- the command of a raw command
abbrev pub command_in : RawCommand → Command
command_in (raw_commands.Act by at call) = Act by at (call_in call)
command_in (raw_commands.Ask query) = Ask (query_in query)

-- the command of a text, by its value, if it has one
abbrev pub command_of_read : Option Data → Command
command_of_read found = unwrap_or (option_map command_of_data found) BadLine
