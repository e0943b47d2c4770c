-- The effect of a call on the log and on its session.
use Rattle.std.specs.Prelude.{ℕ, List, [], ◌∷◌, ◌++◌, Result, Ok, Err, if◌then◌else◌}
use Rattle.batch_history.specs.Replies.{is_nothing}
use Rattle.batch_history.specs.declared.call.Call.{Call}
use Rattle.batch_history.specs.declared.call.Entry.{Entry}
use Rattle.batch_history.specs.declared.call.Reply.{Reply}
use Rattle.batch_ids.specs.declared.refusal.Refusal.{Refusal}
use Rattle.seat_rules.specs.Views.{session_view}
use Rattle.seat_rules.specs.declared.view.SessionView.{SessionView}

abbrev pub operation : ℕ → Call → ℕ → Reply → Entry
operation who call at reply = record { who = who; call = call; at = at; reply = reply }

-- the operations after a call: an accepted call is entered, unless its reply is Nothing, and a refused one
-- isn't
abbrev pub entered : List Entry → ℕ → Call → ℕ → Result Reply Refusal → List Entry
entered log who call at (Ok reply) = if is_nothing reply then log else log ++ operation who call at reply ∷ []
entered log who call at (Err refusal) = log

-- a session that has seen this log, of which these operations are its own
abbrev pub moved_on : SessionView → List Entry → List Entry → SessionView
moved_on s log mine = session_view s.number log mine s.least s.stops s.fresh
