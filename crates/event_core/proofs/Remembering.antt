-- No session forgets what it has seen.
use Rattle.std.proofs.Common.{◌≡◌, ℕ, zero, suc, ◌-◌, ◌≤◌, ◌==◌, ◌&&◌, nat_le, Bool, true, false, cond, None, Some, List, [], ◌∷◌, set, ◌⊎◌, inl, inr, refl, ap, arith}
use Rattle.std.specs.Prelude.{slice_get}
use Rattle.std.proofs.lemmas.Bool.{leb-true}
use Rattle.batch_history.specs.Legal.{history_after, most_operations}
use Rattle.batch_history.specs.Replies.{reply}
use Rattle.batch_history.specs.Rows.{History}
use Rattle.event_core.specs.Headline.{HasSeen}
use Rattle.event_core.specs.Seeing.{seen_by, with_seen, joined, has_seen_no_more}
use Rattle.event_core.specs.Worlds.{State, operations, skipped, if_there, after_seeing, replied, read_after, met, step, IsSound}
use Rattle.event_core.specs.declared.event.Event.{Event}
use Rattle.event_core.specs.declared.event.Event.TheVariants.{Call as Calls, Publish, Read, Ask, Meet, Glance}
use Rattle.event_core.specs.declared.sessions.Seen.{Seen}
use Rattle.event_core.proofs.Soundness.{there-cases, continues-after, operations-continue, seen-within}

-- ---- What stands at a session's place

-- the session that has seen something has seen it
seen-set : (sessions : List Seen) (i : ℕ) (old new : Seen) → slice_get sessions i ≡ Some old → slice_get (set sessions i new) i ≡ Some new
seen-set [] i old new found = cc
seen-set (x ∷ sessions) zero old new found = refl
seen-set (x ∷ sessions) (suc i) old new found = seen-set sessions i old new found

pub seen-now : (sessions : List Seen) (who : ℕ) (old new : Seen) → seen_by sessions who ≡ Some old → seen_by (with_seen sessions who new) who ≡ Some new
seen-now sessions who old new found =
    (elim (who == 0) as (λ b. cond b None (slice_get sessions (who - 1)) ≡ Some old → cond b None (slice_get (with_seen sessions who new) (who - 1)) ≡ Some new) [
      | true ↦ λ e. cc
      | false ↦ λ e. seen-set sessions (who - 1) old new e
    ]) found

-- at another place stands what stood there, and at the same place the new
set-cases : (sessions : List Seen) (i j : ℕ) (old new seen : Seen) → slice_get sessions i ≡ Some old → slice_get sessions j ≡ Some seen
    → ((slice_get (set sessions i new) j ≡ Some new) × (seen ≡ old)) ⊎ (slice_get (set sessions i new) j ≡ Some seen)
set-cases [] i j old new seen found there = cc
set-cases (x ∷ sessions) zero zero old new seen found there = inl (refl, cc)
set-cases (x ∷ sessions) zero (suc j) old new seen found there = inr there
set-cases (x ∷ sessions) (suc i) zero old new seen found there = inr there
set-cases (x ∷ sessions) (suc i) (suc j) old new seen found there = set-cases sessions i j old new seen found there

seen-cases : (sessions : List Seen) (teller who : ℕ) (old new seen : Seen) → seen_by sessions teller ≡ Some old → seen_by sessions who ≡ Some seen
    → ((seen_by (with_seen sessions teller new) who ≡ Some new) × (seen ≡ old)) ⊎ (seen_by (with_seen sessions teller new) who ≡ Some seen)
seen-cases sessions teller who old new seen found there =
    (elim (teller == 0) as (λ b. cond b None (slice_get sessions (teller - 1)) ≡ Some old
    → ((seen_by (with_seen sessions teller new) who ≡ Some new) × (seen ≡ old)) ⊎ (seen_by (with_seen sessions teller new) who ≡ Some seen)) [
      | true ↦ λ e. cc
      | false ↦ λ e. (elim (who == 0) as (λ b. cond b None (slice_get sessions (who - 1)) ≡ Some seen
          → ((cond b None (slice_get (with_seen sessions teller new) (who - 1)) ≡ Some new) × (seen ≡ old)) ⊎ (cond b None (slice_get (with_seen sessions teller new) (who - 1)) ≡ Some seen)) [
            | true ↦ λ f. cc
            | false ↦ λ f. set-cases sessions (teller - 1) (who - 1) old new seen e f
          ]) there
    ]) found

-- ---- A session that has seen no less

pub keeps-same : (s : State) (who : ℕ) (seen : Seen) → seen_by s.sessions who ≡ Some seen → HasSeen s who seen
keeps-same s who seen found = record { now = seen; found = found; front = omega arith; least = omega arith }

-- where one session sees more, no session sees less
keeps-seeing : (s : State) (teller who : ℕ) (old new seen : Seen) → seen_by s.sessions teller ≡ Some old → old.front ≤ new.front → old.least ≤ new.least
    → seen_by s.sessions who ≡ Some seen → HasSeen (after_seeing s teller new) who seen
keeps-seeing s teller who old new seen found front least there =
    elim (seen-cases s.sessions teller who old new seen found there) [
      | inl w ↦ record {
        now = new;
        found = w.0;
        front = omega (arith, ap (λ (x : Seen). x.front) w.1, front);
        least = omega (arith, ap (λ (x : Seen). x.least) w.1, least);
      }
      | inr w ↦ record { now = seen; found = w; front = omega arith; least = omega arith }
    ]

-- what was seen before is seen after two steps
keeps-twice : (s : State) (who : ℕ) (seen : Seen) (before : State) (first : HasSeen before who seen) → HasSeen s who first.now → HasSeen s who seen
keeps-twice s who seen before first second = record {
  now = second.now;
  found = second.found;
  front = omega (arith, first.front, second.front);
  least = omega (arith, first.least, second.least);
}

-- ---- Meetings

-- once the one has seen what both had, the other has seen no more than that
other-less : (s : State) (one other : ℕ) (a b : Seen) → seen_by s.sessions one ≡ Some a → seen_by s.sessions other ≡ Some b
    → (now : Seen) × (seen_by (with_seen s.sessions one (joined a b)) other ≡ Some now) × (now.front ≤ (joined a b).front) × (now.least ≤ (joined a b).least)
other-less s one other a b found too =
    elim (seen-cases s.sessions one other a (joined a b) b found too) [
      | inl w ↦ (joined a b, w.0, omega arith, omega arith)
      | inr w ↦ (b, w, omega arith, omega arith)
    ]

keeps-met : (s : State) (one other who : ℕ) (a b seen : Seen) → seen_by s.sessions one ≡ Some a → seen_by s.sessions other ≡ Some b
    → seen_by s.sessions who ≡ Some seen → HasSeen (met s one other a b).after who seen
keeps-met s one other who a b seen found too there =
    let j : Seen = joined a b in
    let t : State = after_seeing s one j in
    let first : HasSeen t who seen = keeps-seeing s one who a j seen found (omega arith) (omega arith) there in
    let less = other-less s one other a b found too in
    keeps-twice (after_seeing t other j) who seen t first (keeps-seeing t other who less.0 j first.now less.1 less.2 less.3 first.found)

-- each has seen what the other had
pub one-knows : (s : State) (one other : ℕ) (a b : Seen) → seen_by s.sessions one ≡ Some a → seen_by s.sessions other ≡ Some b → HasSeen (met s one other a b).after one b
one-knows s one other a b found too =
    let j : Seen = joined a b in
    let t : State = after_seeing s one j in
    let less = other-less s one other a b found too in
    let first : HasSeen t one b = record { now = j; found = seen-now s.sessions one a j found; front = omega arith; least = omega arith } in
    keeps-twice (after_seeing t other j) one b t first (keeps-seeing t other one less.0 j j less.1 less.2 less.3 first.found)

pub other-knows : (s : State) (one other : ℕ) (a b : Seen) → seen_by s.sessions one ≡ Some a → seen_by s.sessions other ≡ Some b → HasSeen (met s one other a b).after other a
other-knows s one other a b found too =
    let j : Seen = joined a b in
    let less = other-less s one other a b found too in
    record { now = j; found = seen-now (with_seen s.sessions one j) other less.0 j less.1; front = omega arith; least = omega arith }

-- ---- Reads

both : (p q : Bool) → (p && q) ≡ true → (p ≡ true) × (q ≡ true)
both true q e = (refl, e)
both false q e = cc

seen-no-more : (front least n : ℕ) → (nat_le front n && nat_le least n) ≡ true → (front ≤ n) × (least ≤ n)
seen-no-more front least n enough =
    let parts = both (nat_le front n) (nat_le least n) enough in
    (leb-true front n parts.0, leb-true least n parts.1)

-- a read is answered no earlier than its session had seen
pub read-late : (h : History) (seen : Seen) (n : ℕ) → seen.front ≤ operations h → seen.least ≤ operations h
    → (seen.front ≤ read_after h seen n) × (seen.least ≤ read_after h seen n)
read-late h seen n front least =
    (elim (has_seen_no_more seen n) as (λ b. has_seen_no_more seen n ≡ b → (seen.front ≤ cond b n (operations h)) × (seen.least ≤ cond b n (operations h))) [
      | true ↦ λ enough. seen-no-more seen.front seen.least n enough
      | false ↦ λ behind. (front, least)
    ]) refl

-- ---- Steps

keeps-answered : (s : State) (reader who : ℕ) (old seen : Seen) (k : ℕ) → seen_by s.sessions reader ≡ Some old → old.front ≤ k → seen_by s.sessions who ≡ Some seen
    → HasSeen (after_seeing s reader (record old { front = k })) who seen
keeps-answered s reader who old seen k found front there =
    keeps-seeing s reader who old (record old { front = k }) seen found front (omega arith) there

-- THE LAW: after every event each session has seen what it had
pub keeps-step : (s : State) (e : Event) (who : ℕ) (seen : Seen) → IsSound s → seen_by s.sessions who ≡ Some seen → HasSeen (step s e).after who seen
keeps-step s (Calls caller call at) who seen sound there =
    there-cases (λ t. HasSeen t.after who seen) s (seen_by s.sessions caller) (λ seen. replied s caller call at seen (reply most_operations s.history caller call))
    (keeps-same s who seen there)
    (λ old found.
    let h : History = history_after s.history caller call at (reply most_operations s.history caller call) in
    let more : operations s.history ≤ operations h = operations-continue s.history h (continues-after s.history caller call at (reply most_operations s.history caller call)) in
    let front : old.front ≤ operations s.history = (seen-within s caller old sound found).0 in
    keeps-answered (record s { history = h }) caller who old seen (operations h) found (omega arith) there)
keeps-step s (Publish copy upto) who seen sound there =
    there-cases (λ t. HasSeen t.after who seen) s (slice_get s.copies copy) _ (keeps-same s who seen there)
    (λ n has. record { now = seen; found = there; front = omega arith; least = omega arith })
keeps-step s (Read reader copy query) who seen sound there =
    there-cases (λ t. HasSeen t.after who seen) s (seen_by s.sessions reader) _ (keeps-same s who seen there)
    (λ old found. there-cases (λ t. HasSeen t.after who seen) s (slice_get s.copies copy) _ (keeps-same s who seen there)
    (λ n has.
    let within = seen-within s reader old sound found in
    keeps-answered s reader who old seen (read_after s.history old n) found (read-late s.history old n within.0 within.1).0 there))
keeps-step s (Ask reader query) who seen sound there =
    there-cases (λ t. HasSeen t.after who seen) s (seen_by s.sessions reader) _ (keeps-same s who seen there)
    (λ old found. keeps-answered s reader who old seen (operations s.history) found (seen-within s reader old sound found).0 there)
keeps-step s (Meet one other) who seen sound there =
    elim (one == other) as (λ b. HasSeen (cond b (skipped s) (if_there s (seen_by s.sessions one) (λ a. if_there s (seen_by s.sessions other) (met s one other a)))).after who seen) [
      | true ↦ keeps-same s who seen there
      | false ↦ there-cases (λ t. HasSeen t.after who seen) s (seen_by s.sessions one) _ (keeps-same s who seen there)
          (λ a found. there-cases (λ t. HasSeen t.after who seen) s (seen_by s.sessions other) _ (keeps-same s who seen there)
          (λ b too. keeps-met s one other who a b seen found too there))
    ]
keeps-step s (Glance reader) who seen sound there =
    there-cases (λ t. HasSeen t.after who seen) s (seen_by s.sessions reader) _ (keeps-same s who seen there)
    (λ old found. keeps-seeing s reader who old (record old { least = operations s.history }) seen found (omega arith) (seen-within s reader old sound found).1 there)
