-- The text of the replies to calls, and to lines that are no commands.
use Rattle.std.specs.Prelude.{ℕ, Option, Some, None, List, true, codes, Result, Ok, Err}
use Rattle.serde_json.specs.Data.{Data, boolean, string, object, Members, member, no_members, put}
use Rattle.batch_ids.specs.Refusals.{refusal_name}
use Rattle.batch_ids.specs.declared.refusal.Refusal.{Refusal}
use Rattle.batch_history.specs.declared.call.Reply.{Reply}
use Rattle.batch_history.specs.declared.call.Reply.TheVariants as replies
use Rattle.batch_history.specs.declared.call.WorkItem.{WorkItem}
use Rattle.batch_history.specs.declared.call.WorkTask.{WorkTask}
use Rattle.batch_history.specs.declared.call.WorkTask.TheVariants.{Batchlet, Chunk, Decision}
use Rattle.script_text.specs.Written.{line_of, one, count, text_or_null, refused}

-- the members of a work item of a batchlet or of a decision
abbrev pub single_members : List ℕ → List ℕ → WorkItem → Members
single_members kind artifact item =
    member (codes "element") (string item.element)
    (member (codes "execution") (count item.execution)
    (member (codes "kind") (string kind)
    (member (codes "ref") (string artifact)
    (member (codes "work") (count item.work) no_members))))

-- the members of a work item by its task
abbrev pub task_members : WorkTask → WorkItem → Members
task_members (Batchlet artifact) item = single_members (codes "batchlet") artifact item
task_members (Decision artifact) item = single_members (codes "decision") artifact item
task_members (Chunk reader processor writer item_count checkpoint) item =
    member (codes "checkpoint") (text_or_null checkpoint)
    (member (codes "element") (string item.element)
    (member (codes "execution") (count item.execution)
    (member (codes "item-count") (count item_count)
    (member (codes "kind") (string (codes "chunk"))
    (member (codes "processor") (text_or_null processor)
    (member (codes "reader") (string reader)
    (member (codes "work") (count item.work)
    (member (codes "writer") (string writer) no_members))))))))

-- the members with the partition of a work item, if it names one
abbrev pub with_partition : Option ℕ → Members → Members
with_partition None ms = ms
with_partition (Some p) ms = put (codes "partition") (count p) ms

-- a work item
abbrev pub item_data : WorkItem → Data
item_data item = object (with_partition item.partition (task_members item.task item))

-- the reply to a call
abbrev pub reply_data : Result Reply Refusal → Data
reply_data (Ok (replies.Execution execution)) = one (codes "execution") (count execution)
reply_data (Ok (replies.Work item)) = one (codes "work") (item_data item)
reply_data (Ok (replies.Closed execution)) = one (codes "closed") (count execution)
reply_data (Ok replies.Nothing) = one (codes "nothing") (boolean true)
reply_data (Ok replies.Done) = one (codes "done") (boolean true)
reply_data (Ok replies.Go) = one (codes "go") (boolean true)
reply_data (Ok replies.StopAsked) = one (codes "stop") (boolean true)
reply_data (Err refusal) = refused (refusal_name refusal)

-- the line of the reply to a call
abbrev pub reply_text : Result Reply Refusal → List ℕ
reply_text reply = line_of (reply_data reply)

-- the line of the reply to a line that is no command
abbrev pub bad_line_text : List ℕ
bad_line_text = line_of (refused (codes "BadLine"))
