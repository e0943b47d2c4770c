-- The state of a world, and the effect of each event on it.
use Rattle.std.specs.Prelude.{ℕ, ◌≡◌, ◌≤◌, ◌==◌, min, max, Option, None, Some, Result, List, [], ◌∷◌, All, length, replicate, take, slice_get, slice_set, if◌then◌else◌}
use Rattle.batch_ids.specs.declared.refusal.Refusal.{Refusal}
use Rattle.jsl_model.specs.Jobs.{JobTree}
use Rattle.batch_history.specs.Answers.{answer}
use Rattle.batch_history.specs.Legal.{IsLegal, history_after, most_operations}
use Rattle.batch_history.specs.Replies.{reply}
use Rattle.batch_history.specs.Rows.{History, history}
use Rattle.batch_history.specs.declared.call.Call.{Call}
use Rattle.batch_history.specs.declared.call.Reply.{Reply}
use Rattle.batch_history.specs.declared.query.Query.{Query}
use Rattle.history_laws.specs.Laws.{beginning}
use Rattle.event_core.specs.Seeing.{nothing_seen, seen_by, with_seen, joined, has_seen_no_more}
use Rattle.event_core.specs.declared.event.Event.{Event}
use Rattle.event_core.specs.declared.event.Event.TheVariants.{Call as Calls, Publish, Read, Ask, Meet, Glance}
use Rattle.event_core.specs.declared.event.Outcome.{Outcome}
use Rattle.event_core.specs.declared.event.Outcome.TheVariants.{Replied, Answered, Published, Met, Count, Skipped}
use Rattle.event_core.specs.declared.sessions.Seen.{Seen}

-- ---- States

-- a world: its history, the part of it that each session has seen, and the number of operations that each
-- copy has
pub record State : Type 0 where
  pub history : History
  pub sessions : List Seen
  pub copies : List ℕ

-- a world before the first event
abbrev pub empty_world : List JobTree → ℕ → ℕ → State
empty_world catalogue sessions copies =
    record {
      history = history catalogue [];
      sessions = replicate sessions nothing_seen;
      copies = replicate copies 0;
    }

-- the number of operations in a history
abbrev pub operations : History → ℕ
operations h = length h.log

-- a history after its first k operations
abbrev pub first : ℕ → History → History
first k h = beginning h (take k h.log)

-- ---- Events

-- the outcome of an event, and the world after it
pub record Step : Type 0 where
  pub outcome : Outcome
  pub after : State

-- nothing changes
abbrev pub skipped : State → Step
skipped s = record { outcome = Skipped; after = s }

-- the effect of an event whose session or copy exists; otherwise, the event is skipped
abbrev pub if_there : {A : Type 0} → State → Option A → (A → Step) → Step
if_there s None step = skipped s
if_there s (Some there) step = step there

-- the world after a session has seen this
abbrev pub after_seeing : State → ℕ → Seen → State
after_seeing s who seen = record s { sessions = with_seen s.sessions who seen }

-- a call with this reply: its session has then seen the whole history
abbrev pub replied : State → ℕ → Call → ℕ → Seen → Result Reply Refusal → Step
replied s who call at seen given =
    record {
      outcome = Replied given;
      after = after_seeing (record s { history = history_after s.history who call at given }) who
          (record seen { front = operations (history_after s.history who call at given) });
    }

-- the number of operations of a copy of n, after it has taken in those that it lacks up to `upto`, or all
abbrev pub published : History → ℕ → ℕ → ℕ
published h upto n = max n (min upto (operations h))

-- the world after a copy has n operations
abbrev pub with_copy : State → ℕ → ℕ → State
with_copy s copy n = record s { copies = slice_set s.copies copy n }

-- a query that is answered after the first k operations: its session has then seen these
abbrev pub answered_after : State → ℕ → Query → Seen → ℕ → Step
answered_after s who query seen k =
    record {
      outcome = Answered (answer (first k s.history) query);
      after = after_seeing s who (record seen { front = k });
    }

-- the number of operations that answer a read: the copy's n, or all of them if its session has seen more
abbrev pub read_after : History → Seen → ℕ → ℕ
read_after h seen n = if has_seen_no_more seen n then n else operations h

-- two sessions that meet: each has then seen what either had
abbrev pub met : State → ℕ → ℕ → Seen → Seen → Step
met s one other a b =
    record { outcome = Met; after = after_seeing (after_seeing s one (joined a b)) other (joined a b) }

-- a session that is shown the number of operations
abbrev pub glanced : State → ℕ → Seen → Step
glanced s who seen =
    record {
      outcome = Count (operations s.history);
      after = after_seeing s who (record seen { least = operations s.history });
    }

-- THE EFFECT OF AN EVENT: its outcome, and the world after it
abbrev pub step : State → Event → Step
step s (Calls who call at) =
    if_there s (seen_by s.sessions who) (λ seen. replied s who call at seen (reply most_operations s.history who call))
step s (Publish copy upto) =
    if_there s (slice_get s.copies copy)
    (λ n. record { outcome = Published (published s.history upto n); after = with_copy s copy (published s.history upto n) })
step s (Read who copy query) =
    if_there s (seen_by s.sessions who)
    (λ seen. if_there s (slice_get s.copies copy) (λ n. answered_after s who query seen (read_after s.history seen n)))
step s (Ask who query) =
    if_there s (seen_by s.sessions who) (λ seen. answered_after s who query seen (operations s.history))
step s (Meet one other) =
    if one == other then skipped s
    else if_there s (seen_by s.sessions one) (λ a. if_there s (seen_by s.sessions other) (met s one other a))
step s (Glance who) = if_there s (seen_by s.sessions who) (glanced s who)

-- the world after a list of events
abbrev pub state_after : State → List Event → State
state_after s [] = s
state_after s (e ∷ events) = state_after (step s e).after events

-- the outcomes of a list of events
abbrev pub outcomes : State → List Event → List Outcome
outcomes s [] = []
outcomes s (e ∷ events) = (step s e).outcome ∷ outcomes (step s e).after events

-- ---- Invariant

-- the history of a world is legal, and no session has seen more than there is, nor has a copy more
pub record IsSound (s : State) : Type 0 where
  pub legal : IsLegal most_operations s.history
  pub fronts : All (λ seen. seen.front ≤ operations s.history) s.sessions
  pub leasts : All (λ seen. seen.least ≤ operations s.history) s.sessions
  pub lengths : All (λ n. n ≤ operations s.history) s.copies

-- a Publish that was refused memory: its copy has the operations that were entered before, and all else is
-- unchanged
pub record IsPublishedInPart (s : State) (copy upto : ℕ) (after : State) : Type 0 where
  pub before : ℕ
  pub there : slice_get s.copies copy ≡ Some before
  pub length : ℕ
  pub from : before ≤ length
  pub to : length ≤ published s.history upto before
  pub same : after ≡ with_copy s copy length

-- the world after an event that was refused memory: unchanged, except for the operations that the copy of a
-- Publish took in before
abbrev pub IsCutShort : State → Event → State → Type 0
IsCutShort s (Calls who call at) after = after ≡ s
IsCutShort s (Publish copy upto) after = IsPublishedInPart s copy upto after
IsCutShort s (Read who copy query) after = after ≡ s
IsCutShort s (Ask who query) after = after ≡ s
IsCutShort s (Meet one other) after = after ≡ s
IsCutShort s (Glance who) after = after ≡ s
