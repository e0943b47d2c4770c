-- A world stays sound through every event: its history is legal, and nobody has seen more than there is.
use Rattle.std.proofs.Common.{◌≡◌, ℕ, ◌-◌, ◌≤◌, ◌==◌, max, true, false, cond, Option, None, Some, Result, Ok, Err, List, [], ◌∷◌, refl, sym, ap, subst, arith}
use Rattle.std.specs.Prelude.{All, slice_get}
use Rattle.std.proofs.lemmas.List.{append-nil, length-append}
use Rattle.std.proofs.lemmas.List.Elements.{All-set, All-replicate}
use Rattle.std.proofs.lemmas.Option.{get_or_from_slice_get, slice_get_within}
use Rattle.jsl_model.specs.Jobs.{JobTree}
use Rattle.batch_ids.specs.declared.refusal.Refusal.{Refusal}
use Rattle.batch_history.proofs.Legal.{legal_grown, legal-nothing}
use Rattle.batch_history.specs.Legal.{IsLegal, grown, history_after, most_operations}
use Rattle.batch_history.specs.Replies.{reply, is_nothing}
use Rattle.batch_history.specs.Rows.{History}
use Rattle.batch_history.specs.declared.call.Call.{Call}
use Rattle.batch_history.specs.declared.call.Entry.{Entry}
use Rattle.batch_history.specs.declared.call.Reply.{Reply}
use Rattle.batch_history.specs.declared.query.Query.{Query}
use Rattle.event_core.specs.Headline.{Continues}
use Rattle.event_core.specs.Seeing.{nothing_seen, seen_by, joined, has_seen_no_more}
use Rattle.event_core.specs.Worlds.{State, Step, empty_world, operations, skipped, if_there, after_seeing, replied, published, with_copy, answered_after, read_after, met, step, state_after, IsSound}
use Rattle.event_core.specs.declared.event.Event.{Event}
use Rattle.event_core.specs.declared.event.Event.TheVariants.{Call as Calls, Publish, Read, Ask, Meet, Glance}
use Rattle.event_core.specs.declared.sessions.Seen.{Seen}

-- ---- Lists

-- what holds of each element holds of the one at a place
pub All-at : {X : Type 0} (P : X → Type 0) (xs : List X) (i : ℕ) (x : X) → All P xs → slice_get xs i ≡ Some x → P x
All-at P xs i x each there =
    subst P (get_or_from_slice_get xs i x x there) (each i x (slice_get_within xs i x there))

-- ---- Histories that go on

pub continues-same : (h : History) → Continues h h
continues-same h = record { more = []; grown = ap (λ (l : List Entry). record { catalogue = h.catalogue; log = l }) (sym (append-nil h.log)) }

-- a history goes on by what a call is answered
pub continues-after : (h : History) (who : ℕ) (call : Call) (at : ℕ) (given : Result Reply Refusal) → Continues h (history_after h who call at given)
continues-after h who call at (Err refusal) = continues-same h
continues-after h who call at (Ok given) =
    let e : Entry = record { who = who; call = call; at = at; reply = given } in
    elim (is_nothing given) as (λ b. Continues h (cond b h (grown h e))) [
      | true ↦ continues-same h
      | false ↦ record { more = e ∷ []; grown = refl }
    ]

pub operations-continue : (h g : History) → Continues h g → operations h ≤ operations g
operations-continue h g c =
    omega (arith, ap operations c.grown, length-append h.log c.more)

-- ---- Parts of a sound world

-- a session has seen no more than there is
pub seen-within : (s : State) (who : ℕ) (seen : Seen) → IsSound s → seen_by s.sessions who ≡ Some seen
    → (seen.front ≤ operations s.history) × (seen.least ≤ operations s.history)
seen-within s who seen sound =
    elim (who == 0) as (λ b. cond b None (slice_get s.sessions (who - 1)) ≡ Some seen → (seen.front ≤ operations s.history) × (seen.least ≤ operations s.history)) [
      | true ↦ λ e. cc
      | false ↦ λ e. (
        All-at (λ (seen : Seen). seen.front ≤ operations s.history) s.sessions (who - 1) seen sound.fronts e,
        All-at (λ (seen : Seen). seen.least ≤ operations s.history) s.sessions (who - 1) seen sound.leasts e,
      )
    ]

pub sound-seeing : (s : State) (who : ℕ) (seen : Seen) → IsSound s → seen.front ≤ operations s.history → seen.least ≤ operations s.history
    → IsSound (after_seeing s who seen)
sound-seeing s who seen sound front least = record {
  legal = sound.legal;
  fronts = All-set (λ (seen : Seen). seen.front ≤ operations s.history) s.sessions (who - 1) seen front sound.fronts;
  leasts = All-set (λ (seen : Seen). seen.least ≤ operations s.history) s.sessions (who - 1) seen least sound.leasts;
  lengths = sound.lengths;
}

pub sound-longer : (s : State) (h : History) → IsSound s → IsLegal most_operations h → operations s.history ≤ operations h → IsSound (record s { history = h })
sound-longer s h sound legal more = record {
  legal = legal;
  fronts = λ k d lt. omega (arith, sound.fronts k d lt, more);
  leasts = λ k d lt. omega (arith, sound.leasts k d lt, more);
  lengths = λ k d lt. omega (arith, sound.lengths k d lt, more);
}

pub sound-copy : (s : State) (copy n : ℕ) → IsSound s → n ≤ operations s.history → IsSound (with_copy s copy n)
sound-copy s copy n sound le = record {
  legal = sound.legal;
  fronts = sound.fronts;
  leasts = sound.leasts;
  lengths = All-set (λ n. n ≤ operations s.history) s.copies copy n le sound.lengths;
}

-- a legal history stays so by what a call is answered
pub legal-after : (h : History) (who : ℕ) (call : Call) (at : ℕ) (given : Result Reply Refusal) → IsLegal most_operations h → reply most_operations h who call ≡ given
    → IsLegal most_operations (history_after h who call at given)
legal-after h who call at (Err refusal) legal due = legal
legal-after h who call at (Ok given) legal due =
    let e : Entry = record { who = who; call = call; at = at; reply = given } in
    (elim (is_nothing given) as (λ b. is_nothing given ≡ b → IsLegal most_operations (cond b h (grown h e))) [
      | true ↦ λ n. legal
      | false ↦ λ n. legal_grown most_operations h e legal due n
    ]) refl

-- ---- Steps

-- what holds of a skipped step, and of the step where a session or copy is there, holds
pub there-cases : {A : Type 0} (P : Step → Type 0) (s : State) (o : Option A) (f : A → Step) → P (skipped s) → ((a : A) → o ≡ Some a → P (f a)) → P (if_there s o f)
there-cases P s None f none some = none
there-cases P s (Some a) f none some = some a refl

SoundAfter : Step → Type 0
SoundAfter t = IsSound t.after

sound-replied : (s : State) (who : ℕ) (call : Call) (at : ℕ) (seen : Seen) (given : Result Reply Refusal) → IsSound s → reply most_operations s.history who call ≡ given
    → seen_by s.sessions who ≡ Some seen → IsSound (replied s who call at seen given).after
sound-replied s who call at seen given sound due there =
    let h : History = history_after s.history who call at given in
    let more : operations s.history ≤ operations h = operations-continue s.history h (continues-after s.history who call at given) in
    let least : seen.least ≤ operations s.history = (seen-within s who seen sound there).1 in
    sound-seeing (record s { history = h }) who (record seen { front = operations h })
    (sound-longer s h sound (legal-after s.history who call at given sound.legal due) more) (omega arith) (omega arith)

sound-answered : (s : State) (who : ℕ) (query : Query) (seen : Seen) (k : ℕ) → IsSound s → seen_by s.sessions who ≡ Some seen → k ≤ operations s.history
    → IsSound (answered_after s who query seen k).after
sound-answered s who query seen k sound there within =
    sound-seeing s who (record seen { front = k }) sound within (seen-within s who seen sound there).1

pub read-within : (h : History) (seen : Seen) (n : ℕ) → n ≤ operations h → read_after h seen n ≤ operations h
read-within h seen n within =
    elim (has_seen_no_more seen n) as (λ b. cond b n (operations h) ≤ operations h) [
      | true ↦ within
      | false ↦ omega arith
    ]

sound-met : (s : State) (one other : ℕ) (a b : Seen) → IsSound s → seen_by s.sessions one ≡ Some a → seen_by s.sessions other ≡ Some b
    → IsSound (met s one other a b).after
sound-met s one other a b sound there too =
    let x = seen-within s one a sound there in
    let y = seen-within s other b sound too in
    let front : max a.front b.front ≤ operations s.history = omega (arith, x.0, y.0) in
    let least : max a.least b.least ≤ operations s.history = omega (arith, x.1, y.1) in
    sound-seeing (after_seeing s one (joined a b)) other (joined a b) (sound-seeing s one (joined a b) sound front least) front least

-- THE LAW: a sound world is sound after every event
pub sound-step : (s : State) (e : Event) → IsSound s → IsSound (step s e).after
sound-step s (Calls who call at) sound =
    there-cases (λ t. IsSound t.after) s (seen_by s.sessions who) (λ seen. replied s who call at seen (reply most_operations s.history who call)) sound
    (λ seen there. sound-replied s who call at seen (reply most_operations s.history who call) sound refl there)
sound-step s (Publish copy upto) sound =
    there-cases (λ t. IsSound t.after) s (slice_get s.copies copy) _ sound
    (λ n there. sound-copy s copy (published s.history upto n) sound
    (let le : n ≤ operations s.history = All-at (λ n. n ≤ operations s.history) s.copies copy n sound.lengths there in omega (arith, le)))
sound-step s (Read who copy query) sound =
    there-cases (λ t. IsSound t.after) s (seen_by s.sessions who) _ sound
    (λ seen there. there-cases (λ t. IsSound t.after) s (slice_get s.copies copy) _ sound
    (λ n taken. sound-answered s who query seen (read_after s.history seen n) sound there
    (read-within s.history seen n (All-at (λ n. n ≤ operations s.history) s.copies copy n sound.lengths taken))))
sound-step s (Ask who query) sound =
    there-cases (λ t. IsSound t.after) s (seen_by s.sessions who) _ sound
    (λ seen there. sound-answered s who query seen (operations s.history) sound there (omega arith))
sound-step s (Meet one other) sound =
    elim (one == other) as (λ b. IsSound (cond b (skipped s) (if_there s (seen_by s.sessions one) (λ a. if_there s (seen_by s.sessions other) (met s one other a)))).after) [
      | true ↦ sound
      | false ↦ there-cases (λ t. IsSound t.after) s (seen_by s.sessions one) _ sound
          (λ a there. there-cases (λ t. IsSound t.after) s (seen_by s.sessions other) _ sound (λ b too. sound-met s one other a b sound there too))
    ]
sound-step s (Glance who) sound =
    there-cases (λ t. IsSound t.after) s (seen_by s.sessions who) _ sound
    (λ seen there. sound-seeing s who (record seen { least = operations s.history }) sound (seen-within s who seen sound there).0 (omega arith))

-- a sound world is sound after a list of events
pub sound-after : (s : State) (events : List Event) → IsSound s → IsSound (state_after s events)
sound-after s [] sound = sound
sound-after s (e ∷ events) sound = sound-after (step s e).after events (sound-step s e sound)

-- a world before the first event is sound
pub sound-empty : (catalogue : List JobTree) (sessions copies : ℕ) → IsSound (empty_world catalogue sessions copies)
sound-empty catalogue sessions copies = record {
  legal = legal-nothing most_operations catalogue;
  fronts = All-replicate (λ (seen : Seen). seen.front ≤ 0) sessions nothing_seen (omega arith);
  leasts = All-replicate (λ (seen : Seen). seen.least ≤ 0) sessions nothing_seen (omega arith);
  lengths = All-replicate (λ n. n ≤ 0) copies 0 (omega arith);
}
