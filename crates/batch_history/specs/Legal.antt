-- Legal histories: those that a repository may have accepted.
use Rattle.std.specs.Prelude.{ℕ, ◌≡◌, ◌≤◌, ◌==◌, false, Result, Ok, Err, List, [], ◌∷◌, ◌++◌, length, filter, if◌then◌else◌}
use Rattle.batch_ids.specs.declared.refusal.Refusal.{Refusal}
use Rattle.batch_history.specs.Replies.{is_nothing, reply}
use Rattle.batch_history.specs.Rows.{History, history}
use Rattle.batch_history.specs.declared.call.Call.{Call}
use Rattle.batch_history.specs.declared.call.Entry.{Entry}
use Rattle.batch_history.specs.declared.call.Reply.{Reply}

-- the most operations that a script without a log, or an operator, accepts
abbrev pub most_operations : ℕ
most_operations = 1000000

-- the most operations that any repository accepts. Each gives at most one number to a job instance, a job
-- execution and a work item
abbrev pub most_numbered : ℕ
most_numbered = 4294967296

-- the operations of a session, in their order
abbrev pub entries_by : ℕ → List Entry → List Entry
entries_by who log = filter (λ e. e.who == who) log

-- a history with one more operation
abbrev pub grown : History → Entry → History
grown h e = history h.catalogue (h.log ++ e ∷ [])

-- the history after a call with this reply: Nothing makes no entry
abbrev pub after_call : History → ℕ → Call → ℕ → Reply → History
after_call h who call at reply =
    if is_nothing reply then h else grown h record { who = who; call = call; at = at; reply = reply }

-- the history after a call with this result: it grows by the call's entry, if it has one, and a refused call
-- changes nothing
abbrev pub history_after : History → ℕ → Call → ℕ → Result Reply Refusal → History
history_after h who call at (Err refusal) = h
history_after h who call at (Ok reply) = after_call h who call at reply

-- a legal history has at most `limit` entries, and each has the reply that was due to its call after those
-- before it
pub record IsLegal (limit : ℕ) (h : History) : Type 0 where
  pub within : length h.log ≤ limit
  pub due : (before : List Entry) (e : Entry) (after : List Entry) → h.log ≡ before ++ e ∷ after
      → (reply limit (history h.catalogue before) e.who e.call ≡ Ok e.reply) × (is_nothing e.reply ≡ false)
