-- No reply, answer or fault has a number that is a float.
use Rattle.std.proofs.Common.{◌≡◌, ℕ, codes, List, [], ◌∷◌, false, map, filter, Less, Equal, Greater, nat_cmp, Option, Some, None, Result, Ok, Err, refl}
use Rattle.std.proofs.lemmas.Bool.{or_parts}
use Rattle.std.specs.Cmp.Lexicographic.{slice_cmp}
use Rattle.std.specs.Ordering.{match_ordering}
use Rattle.serde_json.specs.Data.{Data, string, Members, no_members, member, put}
use Rattle.serde_json.specs.View.{items_of}
use Rattle.serde_json.specs.Written.{has_float, items_have_float, members_have_float}
use Rattle.batch_ids.specs.Parameters.{Pair}
use Rattle.batch_ids.specs.declared.refusal.Refusal.{Refusal}
use Rattle.batch_history.specs.declared.call.Reply.{Reply}
use Rattle.batch_history.specs.declared.call.Reply.TheVariants as replies
use Rattle.batch_history.specs.declared.call.WorkItem.{WorkItem}
use Rattle.batch_history.specs.declared.call.WorkTask.{WorkTask}
use Rattle.batch_history.specs.declared.call.WorkTask.TheVariants.{Batchlet, Chunk, Decision}
use Rattle.batch_history.specs.declared.query.JobExecution.{JobExecution as ExecutionRecord}
use Rattle.batch_history.specs.declared.query.StepExecution.{StepExecution as StepRecord}
use Rattle.batch_history.specs.declared.query.Answer.{Answer}
use Rattle.batch_history.specs.declared.query.Answer.TheVariants.{JobNames, JobInstanceCount, JobInstances, RunningExecutions, Parameters, JobInstance, JobExecutions, JobExecution, StepExecutions, StatusCounts}
use Rattle.jsl_json.specs.declared.fault.ReadFault.{ReadFault}
use Rattle.jsl_json.specs.declared.fault.ReadFault.TheVariants.{NotJson, NotACatalogue, BadElement, InJob, OutOfMemory}
use Rattle.script_text.specs.Written.{count, with_members, is_shown, count_named, counts_data, text_or_null, count_or_null}
use Rattle.script_text.specs.Parameters.{text_named, parameters_data}
use Rattle.script_text.specs.Metrics.{metric_counts}
use Rattle.script_text.specs.Faults.{fault_data}
use Rattle.script_text.specs.Runs as runs
use Rattle.script_text.specs.Runs.{run_step_data, step_by_id, values_of, run_steps_data}
use Rattle.script_text.specs.Replies.{item_data, task_members, with_partition, reply_data}
use Rattle.script_text.specs.Answers.{instance_data, execution_data, step_data, status_counts, answer_data}

text_has_none : (text : Option (List ℕ)) → has_float (text_or_null text) ≡ false
text_has_none None = refl
text_has_none (Some text) = refl

count_has_none : (n : Option ℕ) → has_float (count_or_null n) ≡ false
count_has_none None = refl
count_has_none (Some n) = refl

-- what is written of each of a list has none
list_has_none : {A : Type 0} (written : A → Data) → ((a : A) → has_float (written a) ≡ false) → (as_given : List A) → items_have_float (items_of (map written as_given)) ≡ false
list_has_none written none [] = refl
list_has_none written none (a ∷ rest) = rw (none a, list_has_none written none rest) refl

-- where members have none, and a value has none, the members with it have none
put_has_none : (k : List ℕ) (d : Data) (ms : Members) → has_float d ≡ false → members_have_float ms ≡ false → members_have_float (put k d ms) ≡ false
put_has_none k d no_members none others = rw none refl
put_has_none k d (member l e ms) none others =
    let apart : (has_float e ≡ false) × (members_have_float ms ≡ false) = or_parts (has_float e) (members_have_float ms) others in
    elim (slice_cmp nat_cmp k l) as (λ o. members_have_float (match_ordering o (member k d (member l e ms)) (member l d ms) (member l e (put k d ms))) ≡ false) [
      | Less ↦ rw none others
      | Equal ↦ rw none apart.1
      | Greater ↦ rw apart.0 (put_has_none k d ms none apart.1)
    ]

task_has_none : (task : WorkTask) (item : WorkItem) → members_have_float (task_members task item) ≡ false
task_has_none (Batchlet artifact) item = refl
task_has_none (Decision artifact) item = refl
task_has_none (Chunk reader processor writer item_count checkpoint) item = simp text_has_none

partition_has_none : (partition : Option ℕ) (ms : Members) → members_have_float ms ≡ false → members_have_float (with_partition partition ms) ≡ false
partition_has_none None ms h = h
partition_has_none (Some p) ms h = put_has_none (codes "partition") (count p) ms refl h

item_has_none : (item : WorkItem) → has_float (item_data item) ≡ false
item_has_none item = partition_has_none item.partition (task_members item.task item) (task_has_none item.task item)

members_have_none : {A : Type 0} (named : A → List ℕ × Data) → ((a : A) → has_float (named a).1 ≡ false) → (ms : Members) (xs : List A) → members_have_float ms ≡ false → members_have_float (with_members ms (map named xs)) ≡ false
members_have_none named none ms [] others = others
members_have_none named none ms (x ∷ xs) others = members_have_none named none (put (named x).0 (named x).1 ms) xs (put_has_none (named x).0 (named x).1 ms (none x) others)

parameters_have_none : (pairs : List Pair) → has_float (parameters_data pairs) ≡ false
parameters_have_none pairs = members_have_none text_named (λ pair. refl) no_members pairs refl

counts_have_none : (counts : List (List ℕ × ℕ)) → has_float (counts_data counts) ≡ false
counts_have_none counts = members_have_none count_named (λ named. refl) no_members (filter is_shown counts) refl

execution_has_none : (e : ExecutionRecord) → has_float (execution_data e) ≡ false
execution_has_none e = simp (text_has_none, count_has_none)

step_has_none : (s : StepRecord) → has_float (step_data s) ≡ false
step_has_none s = simp (text_has_none, count_has_none, counts_have_none (metric_counts s.metrics))

-- nor have the values of members
values_have_none : (ms : Members) → members_have_float ms ≡ false → items_have_float (values_of ms) ≡ false
values_have_none no_members none = refl
values_have_none (member k d ms) none =
    let apart : (has_float d ≡ false) × (members_have_float ms ≡ false) = or_parts (has_float d) (members_have_float ms) none in
    rw (apart.0, values_have_none ms apart.1) refl

run_step_has_none : (s : StepRecord) → has_float (run_step_data s) ≡ false
run_step_has_none s = simp (text_has_none, counts_have_none (metric_counts s.metrics))

run_steps_have_none : (steps : List StepRecord) → has_float (run_steps_data steps) ≡ false
run_steps_have_none steps =
    values_have_none (with_members no_members (map step_by_id steps)) (members_have_none step_by_id run_step_has_none no_members steps refl)

-- nor has what a run tells of a job execution
pub run_has_no_float : (e : ExecutionRecord) (steps : List StepRecord) → has_float (runs.execution_data e steps) ≡ false
run_has_no_float e steps = simp (text_has_none, run_steps_have_none steps)

-- a reply has none
pub reply_has_no_float : (reply : Result Reply Refusal) → has_float (reply_data reply) ≡ false
reply_has_no_float (Ok (replies.Execution execution)) = refl
reply_has_no_float (Ok (replies.Work item)) = simp (item_has_none item)
reply_has_no_float (Ok (replies.Closed execution)) = refl
reply_has_no_float (Ok replies.Nothing) = refl
reply_has_no_float (Ok replies.Done) = refl
reply_has_no_float (Ok replies.Go) = refl
reply_has_no_float (Ok replies.StopAsked) = refl
reply_has_no_float (Err refusal) = refl

-- nor has an answer
pub answer_has_no_float : (answer : Result Answer Refusal) → has_float (answer_data answer) ≡ false
answer_has_no_float (Ok (JobNames names)) = rw (list_has_none string (λ name. refl) names) refl
answer_has_no_float (Ok (JobInstanceCount n)) = refl
answer_has_no_float (Ok (JobInstances instances)) = rw (list_has_none instance_data (λ i. refl) instances) refl
answer_has_no_float (Ok (RunningExecutions executions)) = rw (list_has_none count (λ n. refl) executions) refl
answer_has_no_float (Ok (Parameters pairs)) = rw (parameters_have_none pairs) refl
answer_has_no_float (Ok (JobInstance instance)) = refl
answer_has_no_float (Ok (JobExecutions executions)) = rw (list_has_none execution_data execution_has_none executions) refl
answer_has_no_float (Ok (JobExecution e)) = simp (execution_has_none e)
answer_has_no_float (Ok (StepExecutions steps)) = rw (list_has_none step_data step_has_none steps) refl
answer_has_no_float (Ok (StatusCounts counts)) = rw (counts_have_none (status_counts counts)) refl
answer_has_no_float (Err refusal) = refl

-- nor has a fault
pub fault_has_no_float : (fault : ReadFault) → has_float (fault_data fault) ≡ false
fault_has_no_float NotJson = refl
fault_has_no_float NotACatalogue = refl
fault_has_no_float (BadElement job element) = simp (count_has_none element)
fault_has_no_float (InJob job fault) = refl
fault_has_no_float OutOfMemory = refl
