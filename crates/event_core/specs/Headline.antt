-- The theorem about every list of events, for any sessions and copies: they follow one growing history.
use Rattle.std.specs.Prelude.{ℕ, ◌≡◌, ◌≢◌, ◌≤◌, ◌==◌, Option, None, Some, Ok, Err, List, ◌∷◌, ◌++◌, filter_map, zip, slice_get, if◌then◌else◌}
use Rattle.batch_history.specs.Answers.{answer}
use Rattle.batch_history.specs.Legal.{IsLegal, entries_by, most_operations}
use Rattle.batch_history.specs.Replies.{reply, is_nothing}
use Rattle.batch_history.specs.Rows.{History}
use Rattle.batch_history.specs.declared.call.Call.{Call}
use Rattle.batch_history.specs.declared.call.Entry.{Entry}
use Rattle.batch_history.specs.declared.call.Reply.{Reply}
use Rattle.batch_history.specs.declared.query.Query.{Query}
use Rattle.history_laws.specs.Laws.{HasOneUnfinishedEach, RestartsFollow}
use Rattle.event_core.specs.Seeing.{seen_by}
use Rattle.event_core.specs.Worlds.{State, operations, first, step, state_after, outcomes}
use Rattle.event_core.specs.declared.event.Event.{Event}
use Rattle.event_core.specs.declared.event.Event.TheVariants.{Call as Calls, Publish, Read, Ask, Meet, Glance}
use Rattle.event_core.specs.declared.event.Outcome.{Outcome}
use Rattle.event_core.specs.declared.event.Outcome.TheVariants.{Replied, Answered, Published, Met, Count, Skipped}
use Rattle.event_core.specs.declared.sessions.Seen.{Seen}

-- ---- A session's own operations

-- the reply to an accepted call, unless it is Nothing
abbrev pub accepted_reply : Outcome → Option Reply
accepted_reply (Replied (Ok given)) = if is_nothing given then None else Some given
accepted_reply (Replied (Err refusal)) = None
accepted_reply (Answered answered) = None
accepted_reply (Published length) = None
accepted_reply Met = None
accepted_reply (Count n) = None
accepted_reply Skipped = None

-- the entry of a call with this reply, if this session made it
abbrev pub entry_with : ℕ → ℕ → Call → ℕ → Option Reply → Option Entry
entry_with who caller call at None = None
entry_with who caller call at (Some given) =
    if caller == who then Some (record { who = caller; call = call; at = at; reply = given }) else None

-- the entry of an event with its outcome, if it is an accepted call of this session
abbrev pub accepted_call : ℕ → Event → Outcome → Option Entry
accepted_call who (Calls caller call at) outcome = entry_with who caller call at (accepted_reply outcome)
accepted_call who (Publish copy upto) outcome = None
accepted_call who (Read reader copy query) outcome = None
accepted_call who (Ask reader query) outcome = None
accepted_call who (Meet one other) outcome = None
accepted_call who (Glance reader) outcome = None

-- a session's accepted calls among events with their outcomes, in order
abbrev pub accepted_calls : ℕ → List Event → List Outcome → List Entry
accepted_calls who events answered = filter_map (λ p. accepted_call who p.0 p.1) (zip events answered)

-- ---- The outcome of each event

-- a session has seen at least this
pub record HasSeen (s : State) (who : ℕ) (seen : Seen) : Type 0 where
  pub now : Seen
  pub found : seen_by s.sessions who ≡ Some now
  pub front : seen.front ≤ now.front
  pub least : seen.least ≤ now.least

-- the reply to a call follows from the whole history, which has at least what its session had seen. The
-- session has then seen all operations
pub record IsRepliedAtEnd (s : State) (e : Event) (who : ℕ) (call : Call) (seen : Seen) : Type 0 where
  pub outcome : (step s e).outcome ≡ Replied (reply most_operations s.history who call)
  pub front : seen.front ≤ operations s.history
  pub least : seen.least ≤ operations s.history
  pub seen_now : seen_by (step s e).after.sessions who
      ≡ Some (record seen { front = operations (step s e).after.history })

-- the answer to a query follows from the first k operations, at least as many as its session had seen. The
-- session has then seen these
pub record IsAnsweredAfterFirst (s : State) (e : Event) (who : ℕ) (query : Query) (seen : Seen) : Type 0 where
  pub k : ℕ
  pub front : seen.front ≤ k
  pub least : seen.least ≤ k
  pub within : k ≤ operations s.history
  pub outcome : (step s e).outcome ≡ Answered (answer (first k s.history) query)
  pub seen_now : seen_by (step s e).after.sessions who ≡ Some (record seen { front = k })

-- a session that glances is shown the number of operations, which is at least what it was shown before, and
-- stores it
pub record IsShownAll (s : State) (e : Event) (who : ℕ) (seen : Seen) : Type 0 where
  pub outcome : (step s e).outcome ≡ Count (operations s.history)
  pub least : seen.least ≤ operations s.history
  pub seen_now : seen_by (step s e).after.sessions who ≡ Some (record seen { least = operations s.history })

-- two sessions met: each has now seen what the other had
pub record HaveMet (s : State) (e : Event) (one other : ℕ) (a b : Seen) : Type 0 where
  pub outcome : (step s e).outcome ≡ Met
  pub one_knows : HasSeen (step s e).after one b
  pub other_knows : HasSeen (step s e).after other a

-- a history is another one with more operations appended
pub record Continues (before after : History) : Type 0 where
  pub more : List Entry
  pub grown : after ≡ record { catalogue = before.catalogue; log = before.log ++ more }

-- ---- All events

-- the state after some events. The history is legal, and each session's accepted calls are in it in order. No
-- job instance ever had two unfinished job executions, and each restart followed the most recent one
pub record HoldsAfter (start : State) (before : List Event) : Type 0 where
  pub legal : IsLegal most_operations (state_after start before).history
  pub own : (who : ℕ)
      → entries_by who (state_after start before).history.log ≡ accepted_calls who before (outcomes start before)
  pub unfinished : HasOneUnfinishedEach (state_after start before).history
  pub restarts : RestartsFollow (state_after start before).history

-- the effect of an event. A call's reply is due at the end of the history, and a query's answer after some
-- first operations of it. Neither is earlier than its session had seen. No session forgets what it has seen,
-- and the history only grows
pub record HoldsAt (s : State) (e : Event) : Type 0 where
  pub calls : (who : ℕ) (call : Call) (at : ℕ) (seen : Seen) → e ≡ Calls who call at
      → seen_by s.sessions who ≡ Some seen → IsRepliedAtEnd s e who call seen
  pub reads : (who copy n : ℕ) (query : Query) (seen : Seen) → e ≡ Read who copy query
      → seen_by s.sessions who ≡ Some seen → slice_get s.copies copy ≡ Some n → IsAnsweredAfterFirst s e who query seen
  pub asks : (who : ℕ) (query : Query) (seen : Seen) → e ≡ Ask who query
      → seen_by s.sessions who ≡ Some seen → IsAnsweredAfterFirst s e who query seen
  pub glances : (who : ℕ) (seen : Seen) → e ≡ Glance who → seen_by s.sessions who ≡ Some seen → IsShownAll s e who seen
  pub meets : (one other : ℕ) (a b : Seen) → e ≡ Meet one other → one ≢ other → seen_by s.sessions one ≡ Some a
      → seen_by s.sessions other ≡ Some b → HaveMet s e one other a b
  pub keeps : (who : ℕ) (seen : Seen) → seen_by s.sessions who ≡ Some seen → HasSeen (step s e).after who seen
  pub grows : Continues s.history (step s e).after.history

-- ONE GROWING HISTORY: the state after any of these events, and the effect of each
pub record FollowOneHistory (start : State) (events : List Event) : Type 0 where
  pub moments : (before after : List Event) → events ≡ before ++ after → HoldsAfter start before
  pub each : (before : List Event) (e : Event) (after : List Event) → events ≡ before ++ e ∷ after
      → HoldsAt (state_after start before) e
