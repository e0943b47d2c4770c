-- Every list of events follows one growing history.
use Rattle.std.proofs.Common.{◌≡◌, ◌≢◌, ℕ, ◌≤◌, ◌==◌, true, false, cond, Option, None, Some, Result, Ok, Err, List, [], ◌∷◌, ◌++◌, refl, sym, ◌∙◌, ap, arith, subst}
use Rattle.std.specs.Prelude.{slice_get}
use Rattle.std.specs.List.{cons_option}
use Rattle.std.proofs.lemmas.Bool.{ne_eqb}
use Rattle.std.proofs.lemmas.List.{append-nil, append_assoc}
use Rattle.std.proofs.lemmas.List.Elements.{filter-append}
use Rattle.batch_ids.specs.declared.refusal.Refusal.{Refusal}
use Rattle.jsl_model.specs.Jobs.{JobTree}
use Rattle.batch_history.specs.Legal.{IsLegal, entries_by, grown, history_after, most_operations}
use Rattle.batch_history.specs.Replies.{reply, is_nothing}
use Rattle.batch_history.specs.Rows.{History}
use Rattle.batch_history.specs.declared.call.Call.{Call}
use Rattle.batch_history.specs.declared.call.Entry.{Entry}
use Rattle.batch_history.specs.declared.call.Reply.{Reply}
use Rattle.batch_history.specs.declared.query.Query.{Query}
use Rattle.history_laws.proofs.Restarts.{one_unfinished, restart_follows}
use Rattle.event_core.specs.Headline.{entry_with, accepted_call, accepted_calls, HasSeen, IsRepliedAtEnd, IsAnsweredAfterFirst, IsShownAll, HaveMet, Continues, HoldsAfter, HoldsAt, FollowOneHistory}
use Rattle.event_core.specs.Seeing.{seen_by}
use Rattle.event_core.specs.Worlds.{State, Step, empty_world, operations, skipped, if_there, replied, answered_after, read_after, met, step, state_after, outcomes, IsSound, glanced}
use Rattle.event_core.specs.declared.event.Event.{Event}
use Rattle.event_core.specs.declared.event.Event.TheVariants.{Call as Calls, Publish, Read, Ask, Meet, Glance}
use Rattle.event_core.specs.declared.sessions.Seen.{Seen}
use Rattle.event_core.proofs.Remembering.{seen-now, read-late, one-knows, other-knows, keeps-step}
use Rattle.event_core.proofs.Soundness.{All-at, there-cases, continues-same, continues-after, seen-within, read-within, sound-after, sound-empty}
use Rattle.event_core.proofs.Stepping.{there}

-- ---- The history goes on

pub continues-step : (s : State) (e : Event) → Continues s.history (step s e).after.history
continues-step s (Calls who call at) =
    there-cases (λ t. Continues s.history t.after.history) s (seen_by s.sessions who) (λ seen. replied s who call at seen (reply most_operations s.history who call))
    (continues-same s.history) (λ seen is. continues-after s.history who call at (reply most_operations s.history who call))
continues-step s (Publish copy upto) =
    there-cases (λ t. Continues s.history t.after.history) s (slice_get s.copies copy) _ (continues-same s.history) (λ n is. continues-same s.history)
continues-step s (Read who copy query) =
    there-cases (λ t. Continues s.history t.after.history) s (seen_by s.sessions who) _ (continues-same s.history)
    (λ seen is. there-cases (λ t. Continues s.history t.after.history) s (slice_get s.copies copy) _ (continues-same s.history) (λ n has. continues-same s.history))
continues-step s (Ask who query) =
    there-cases (λ t. Continues s.history t.after.history) s (seen_by s.sessions who) _ (continues-same s.history) (λ seen is. continues-same s.history)
continues-step s (Meet one other) =
    elim (one == other) as (λ b. Continues s.history (cond b (skipped s) (if_there s (seen_by s.sessions one) (λ a. if_there s (seen_by s.sessions other) (met s one other a)))).after.history) [
      | true ↦ continues-same s.history
      | false ↦ there-cases (λ t. Continues s.history t.after.history) s (seen_by s.sessions one) _ (continues-same s.history)
          (λ a is. there-cases (λ t. Continues s.history t.after.history) s (seen_by s.sessions other) _ (continues-same s.history) (λ b too. continues-same s.history))
    ]
continues-step s (Glance who) =
    there-cases (λ t. Continues s.history t.after.history) s (seen_by s.sessions who) _ (continues-same s.history) (λ seen is. continues-same s.history)

-- ---- A session's own operations

-- a session's operations after an event are those before it, and the event's entry if it is an accepted call of the session
abbrev GrowsBy : ℕ → State → Event → Step → Type 0
GrowsBy who s e t = entries_by who t.after.history.log ≡ entries_by who s.history.log ++ cons_option (accepted_call who e t.outcome) []

none-more : (who : ℕ) (h : History) → entries_by who h.log ≡ entries_by who h.log ++ []
none-more who h = sym (append-nil (entries_by who h.log))

-- one operation more
one-more : (who : ℕ) (h : History) (e : Entry) → entries_by who (grown h e).log ≡ entries_by who h.log ++ cons_option (cond (e.who == who) (Some e) None) []
one-more who h e =
    filter-append (λ (e : Entry). e.who == who) h.log (e ∷ [])
    ∙ ap (λ l. entries_by who h.log ++ l)
    (elim (e.who == who) as (λ b. cond b (e ∷ []) [] ≡ cons_option (cond b (Some e) None) []) [ true ↦ refl | false ↦ refl ])

own-replied : (who caller : ℕ) (s : State) (call : Call) (at : ℕ) (seen : Seen) (given : Result Reply Refusal)
    → GrowsBy who s (Calls caller call at) (replied s caller call at seen given)
own-replied who caller s call at seen (Err refusal) = none-more who s.history
own-replied who caller s call at seen (Ok given) =
    let e : Entry = record { who = caller; call = call; at = at; reply = given } in
    elim (is_nothing given) as (λ b. entries_by who (cond b s.history (grown s.history e)).log
    ≡ entries_by who s.history.log ++ cons_option (entry_with who caller call at (cond b None (Some given))) []) [
      | true ↦ none-more who s.history
      | false ↦ one-more who s.history e
    ]

own-step : (who : ℕ) (s : State) (e : Event) → GrowsBy who s e (step s e)
own-step who s (Calls caller call at) =
    there-cases (GrowsBy who s (Calls caller call at)) s (seen_by s.sessions caller) (λ seen. replied s caller call at seen (reply most_operations s.history caller call))
    (none-more who s.history) (λ seen is. own-replied who caller s call at seen (reply most_operations s.history caller call))
own-step who s (Publish copy upto) =
    there-cases (GrowsBy who s (Publish copy upto)) s (slice_get s.copies copy) _ (none-more who s.history) (λ n is. none-more who s.history)
own-step who s (Read reader copy query) =
    there-cases (GrowsBy who s (Read reader copy query)) s (seen_by s.sessions reader) _ (none-more who s.history)
    (λ seen is. there-cases (GrowsBy who s (Read reader copy query)) s (slice_get s.copies copy) _ (none-more who s.history) (λ n has. none-more who s.history))
own-step who s (Ask reader query) =
    there-cases (GrowsBy who s (Ask reader query)) s (seen_by s.sessions reader) _ (none-more who s.history) (λ seen is. none-more who s.history)
own-step who s (Meet one other) =
    elim (one == other) as (λ b. GrowsBy who s (Meet one other) (cond b (skipped s) (if_there s (seen_by s.sessions one) (λ a. if_there s (seen_by s.sessions other) (met s one other a))))) [
      | true ↦ none-more who s.history
      | false ↦ there-cases (GrowsBy who s (Meet one other)) s (seen_by s.sessions one) _ (none-more who s.history)
          (λ a is. there-cases (GrowsBy who s (Meet one other)) s (seen_by s.sessions other) _ (none-more who s.history) (λ b too. none-more who s.history))
    ]
own-step who s (Glance reader) =
    there-cases (GrowsBy who s (Glance reader)) s (seen_by s.sessions reader) _ (none-more who s.history) (λ seen is. none-more who s.history)

-- what is in front of a list comes first
first-of : (o : Option Entry) (l : List Entry) → cons_option o [] ++ l ≡ cons_option o l
first-of None l = refl
first-of (Some e) l = refl

-- a session's operations after some events are those before, and its accepted calls among the events
own-after : (who : ℕ) (s : State) (events : List Event)
    → entries_by who (state_after s events).history.log ≡ entries_by who s.history.log ++ accepted_calls who events (outcomes s events)
own-after who s [] = none-more who s.history
own-after who s (e ∷ events) =
    let t : Step = step s e in
    own-after who t.after events
    ∙ (ap (λ l. l ++ accepted_calls who events (outcomes t.after events)) (own-step who s e)
    ∙ (append_assoc (entries_by who s.history.log) (cons_option (accepted_call who e t.outcome) []) (accepted_calls who events (outcomes t.after events))
    ∙ ap (λ l. entries_by who s.history.log ++ l) (first-of (accepted_call who e t.outcome) (accepted_calls who events (outcomes t.after events)))))

-- ---- What an event is answered

replied-at : (s : State) (e : Event) (who : ℕ) (call : Call) (at : ℕ) (seen : Seen) → IsSound s → e ≡ Calls who call at → seen_by s.sessions who ≡ Some seen
    → IsRepliedAtEnd s e who call seen
replied-at s e who call at seen sound is found =
    let within = seen-within s who seen sound found in
    let h : History = history_after s.history who call at (reply most_operations s.history who call) in
    let done : step s e ≡ replied s who call at seen (reply most_operations s.history who call) =
    ap (step s) is ∙ there s (seen_by s.sessions who) seen (λ seen. replied s who call at seen (reply most_operations s.history who call)) (sym found) in
    record {
      outcome = ap (λ (t : Step). t.outcome) done;
      front = within.0;
      least = within.1;
      seen_now = subst (λ (t : Step). seen_by t.after.sessions who ≡ Some (record seen { front = operations t.after.history })) (sym done)
          (seen-now s.sessions who seen (record seen { front = operations h }) found);
    }

answered-at : (s : State) (e : Event) (who : ℕ) (query : Query) (seen : Seen) (k : ℕ) → seen_by s.sessions who ≡ Some seen
    → step s e ≡ answered_after s who query seen k → seen.front ≤ k → seen.least ≤ k → k ≤ operations s.history
    → IsAnsweredAfterFirst s e who query seen
answered-at s e who query seen k found is front least within = record {
  k = k;
  front = front;
  least = least;
  within = within;
  outcome = ap (λ (t : Step). t.outcome) is;
  seen_now = ap (λ (t : Step). seen_by t.after.sessions who) is ∙ seen-now s.sessions who seen (record seen { front = k }) found;
}

read-at : (s : State) (e : Event) (who copy n : ℕ) (query : Query) (seen : Seen) → IsSound s → e ≡ Read who copy query
    → seen_by s.sessions who ≡ Some seen → slice_get s.copies copy ≡ Some n → IsAnsweredAfterFirst s e who query seen
read-at s e who copy n query seen sound is found has =
    let within = seen-within s who seen sound found in
    let late = read-late s.history seen n within.0 within.1 in
    answered-at s e who query seen (read_after s.history seen n) found
    (ap (step s) is ∙ (there s (seen_by s.sessions who) seen _ (sym found) ∙ there s (slice_get s.copies copy) n (λ n. answered_after s who query seen (read_after s.history seen n)) (sym has)))
    late.0 late.1 (read-within s.history seen n (All-at (λ n. n ≤ operations s.history) s.copies copy n sound.lengths has))

ask-at : (s : State) (e : Event) (who : ℕ) (query : Query) (seen : Seen) → IsSound s → e ≡ Ask who query
    → seen_by s.sessions who ≡ Some seen → IsAnsweredAfterFirst s e who query seen
ask-at s e who query seen sound is found =
    let within = seen-within s who seen sound found in
    answered-at s e who query seen (operations s.history) found
    (ap (step s) is ∙ there s (seen_by s.sessions who) seen (λ seen. answered_after s who query seen (operations s.history)) (sym found))
    within.0 within.1 (omega arith)

glanced-at : (s : State) (e : Event) (who : ℕ) (seen : Seen) → IsSound s → e ≡ Glance who → seen_by s.sessions who ≡ Some seen → IsShownAll s e who seen
glanced-at s e who seen sound is found =
    let done : step s e ≡ glanced s who seen = ap (step s) is ∙ there s (seen_by s.sessions who) seen (glanced s who) (sym found) in
    record {
      outcome = ap (λ (t : Step). t.outcome) done;
      least = (seen-within s who seen sound found).1;
      seen_now = ap (λ (t : Step). seen_by t.after.sessions who) done ∙ seen-now s.sessions who seen (record seen { least = operations s.history }) found;
    }

met-at : (s : State) (e : Event) (one other : ℕ) (a b : Seen) → e ≡ Meet one other → one ≢ other → seen_by s.sessions one ≡ Some a
    → seen_by s.sessions other ≡ Some b → HaveMet s e one other a b
met-at s e one other a b is two found too =
    let apart : (one == other) ≡ false = ne_eqb one other two in
    let done : step s e ≡ met s one other a b =
    ap (step s) is
    ∙ (ap (λ c. cond c (skipped s) (if_there s (seen_by s.sessions one) (λ a. if_there s (seen_by s.sessions other) (met s one other a)))) apart
    ∙ (there s (seen_by s.sessions one) a (λ a. if_there s (seen_by s.sessions other) (met s one other a)) (sym found)
    ∙ there s (seen_by s.sessions other) b (met s one other a) (sym too))) in
    record {
      outcome = ap (λ (t : Step). t.outcome) done;
      one_knows = subst (λ (t : Step). HasSeen t.after one b) (sym done) (one-knows s one other a b found too);
      other_knows = subst (λ (t : Step). HasSeen t.after other a) (sym done) (other-knows s one other a b found too);
    }

-- ---- The whole

holds-at : (s : State) (e : Event) → IsSound s → HoldsAt s e
holds-at s e sound = record {
  calls = λ who call at seen is found. replied-at s e who call at seen sound is found;
  reads = λ who copy n query seen is found has. read-at s e who copy n query seen sound is found has;
  asks = λ who query seen is found. ask-at s e who query seen sound is found;
  glances = λ who seen is found. glanced-at s e who seen sound is found;
  meets = λ one other a b is two found too. met-at s e one other a b is two found too;
  keeps = λ who seen found. keeps-step s e who seen sound found;
  grows = continues-step s e;
}

holds-after : (catalogue : List JobTree) (sessions copies : ℕ) (before : List Event) → HoldsAfter (empty_world catalogue sessions copies) before
holds-after catalogue sessions copies before =
    let start : State = empty_world catalogue sessions copies in
    let legal : IsLegal most_operations (state_after start before).history = (sound-after start before (sound-empty catalogue sessions copies)).legal in
    record {
      legal = legal;
      own = λ who. own-after who start before;
      unfinished = one_unfinished most_operations (state_after start before).history legal;
      restarts = restart_follows most_operations (state_after start before).history legal;
    }

-- THE LAW: the events of a world follow one growing history
pub follow_one_history : (catalogue : List JobTree) (sessions copies : ℕ) (events : List Event) → FollowOneHistory (empty_world catalogue sessions copies) events
follow_one_history catalogue sessions copies events = record {
  moments = λ before after cut. holds-after catalogue sessions copies before;
  each = λ before e after cut. holds-at (state_after (empty_world catalogue sessions copies) before) e
      (sound-after (empty_world catalogue sessions copies) before (sound-empty catalogue sessions copies));
}
