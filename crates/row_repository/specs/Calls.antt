-- The rows after a call.
use Rattle.std.specs.Prelude.{ℕ, Result, Ok, Err, if◌then◌else◌}
use Rattle.batch_ids.specs.declared.refusal.Refusal.{Refusal}
use Rattle.batch_history.specs.NextRows.{rows_after}
use Rattle.batch_history.specs.Replies.{is_nothing}
use Rattle.batch_history.specs.Rows.{Rows}
use Rattle.batch_history.specs.declared.call.Call.{Call}
use Rattle.batch_history.specs.declared.call.Reply.{Reply}

-- the rows after a call with this reply: Nothing changes nothing
abbrev pub rows_after_reply : Rows → ℕ → Call → ℕ → Reply → Rows
rows_after_reply r who call at reply =
    if is_nothing reply then r else rows_after r record { who = who; call = call; at = at; reply = reply }

-- the rows after a call with this result: a refused call changes nothing
abbrev pub rows_after_call : Rows → ℕ → Call → ℕ → Result Reply Refusal → Rows
rows_after_call r who call at (Err refusal) = r
rows_after_call r who call at (Ok reply) = rows_after_reply r who call at reply
