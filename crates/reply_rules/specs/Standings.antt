-- The rows of a repository's state, and which of its job executions are unfinished.
use Rattle.std.specs.Prelude.{ℕ, Bool}
use Rattle.batch_ids.specs.Statuses.{is_unfinished}
use Rattle.batch_history.specs.Replies.{row_status}
use Rattle.batch_history.specs.Rows.{Rows}
use Rattle.batch_history.specs.declared.rows.ExecutionRow.{ExecutionRow}
use Rattle.restart_rules.specs.Restarting.{rows_over}
use Rattle.reply_rules.specs.declared.standing.Standing.{Standing}

-- the rows of a state
abbrev pub rows_at : {limit : ℕ} → Standing limit → Rows
rows_at s = rows_over s.catalogue.now s.count s.last s.records.now

-- whether a job execution is unfinished
abbrev pub is_open : ExecutionRow → Bool
is_open row = is_unfinished (row_status row)
