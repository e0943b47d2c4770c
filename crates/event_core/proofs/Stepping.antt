-- What the parts of a world do is its step.
use Rattle.std.proofs.Common.{◌≡◌, ℕ, ◌==◌, true, false, cond, Option, Some, Result, Ok, Err, OnErr, List, sym, ◌∙◌, ap, subst}
use Rattle.std.specs.Option.{option_map}
use Rattle.std.specs.Prelude.{slice_get, slice_set}
use Rattle.std.proofs.lemmas.List.{map-set, take_all}
use Rattle.std.proofs.Math.Nat.{le_refl}
use Rattle.std.proofs.lemmas.Option.{slice_get-map}
use Rattle.batch_ids.specs.declared.refusal.Refusal.{Refusal}
use Rattle.batch_history.specs.Answers.{answer}
use Rattle.batch_history.specs.Legal.{history_after, most_operations}
use Rattle.batch_history.specs.Replies.{reply}
use Rattle.batch_history.specs.Rows.{History, history}
use Rattle.batch_history.specs.declared.call.Call.{Call}
use Rattle.batch_history.specs.declared.call.Entry.{Entry}
use Rattle.batch_history.specs.declared.call.Reply.{Reply}
use Rattle.batch_history.specs.declared.query.Answer.{Answer}
use Rattle.batch_history.specs.declared.query.Query.{Query}
use Rattle.event_core.specs.Copies.{lengths}
use Rattle.event_core.specs.Seeing.{seen_by, with_seen, joined, has_seen_no_more}
use Rattle.event_core.specs.Worlds.{State, Step, operations, first, skipped, if_there, replied, published, with_copy, answered_after, met, step, IsSound}
use Rattle.event_core.specs.declared.copies.LaggingCopy.{LaggingCopy}
use Rattle.event_core.specs.declared.event.Event.{Event}
use Rattle.event_core.specs.declared.event.Event.TheVariants.{Call as Calls, Publish, Read, Ask, Meet}
use Rattle.event_core.specs.declared.event.Outcome.TheVariants.{Replied, Answered, Published, Met}
use Rattle.event_core.specs.declared.sessions.Seen.{Seen}
use Rattle.event_core.proofs.Soundness.{sound-step}

-- a step where a session or copy is there
pub there : {A : Type 0} (s : State) (o : Option A) (a : A) (f : A → Step) → Some a ≡ o → if_there s o f ≡ f a
there s o a f is = ap (λ o. if_there s o f) (sym is)

-- a call that the book was asked
pub called : (s : State) (who : ℕ) (call : Call) (at : ℕ) (seen : Seen) (given : Result Reply Refusal) (history : History) (sessions : List Seen)
    → Some seen ≡ seen_by s.sessions who → given ≡ reply most_operations s.history who call → history ≡ history_after s.history who call at given
    → sessions ≡ with_seen s.sessions who (record seen { front = operations history })
    → step s (Calls who call at) ≡ record { outcome = Replied given; after = record { history = history; sessions = sessions; copies = s.copies } }
called s who call at seen given history sessions is due grown put =
    let now : State = record { history = history; sessions = with_seen s.sessions who (record seen { front = operations history }); copies = s.copies } in
    let put_so : record { outcome = Replied given; after = now } ≡ record { outcome = Replied given; after = record now { sessions = sessions } } =
    ap (λ (l : List Seen). record { outcome = Replied given; after = record now { sessions = l } }) (sym put) in
    there s (seen_by s.sessions who) seen (λ seen. replied s who call at seen (reply most_operations s.history who call)) is
    ∙ (ap (replied s who call at seen) (sym due)
    ∙ (ap (λ (h : History). record { outcome = Replied given; after = record { history = h; sessions = with_seen s.sessions who (record seen { front = operations h }); copies = s.copies } }) (sym grown)
    ∙ put_so))

-- a query that the book was asked
pub asked : (s : State) (who : ℕ) (query : Query) (seen : Seen) (answered : Result Answer Refusal) (sessions : List Seen)
    → Some seen ≡ seen_by s.sessions who → answered ≡ answer s.history query
    → sessions ≡ with_seen s.sessions who (record seen { front = operations s.history })
    → step s (Ask who query) ≡ record { outcome = Answered answered; after = record { history = s.history; sessions = sessions; copies = s.copies } }
asked s who query seen answered sessions is due put =
    let now : State = record { history = s.history; sessions = with_seen s.sessions who (record seen { front = operations s.history }); copies = s.copies } in
    there s (seen_by s.sessions who) seen (λ seen. answered_after s who query seen (operations s.history)) is
    ∙ (ap (λ (l : List Entry). record { outcome = Answered (answer (history s.history.catalogue l) query); after = now })
    (take_all (operations s.history) s.history.log (le_refl (operations s.history)))
    ∙ (ap (λ (l : List Seen). record { outcome = Answered (answer s.history query); after = record { history = s.history; sessions = l; copies = s.copies } }) (sym put)
    ∙ ap (λ (r : Result Answer Refusal). record { outcome = Answered r; after = record { history = s.history; sessions = sessions; copies = s.copies } }) (sym due)))

-- a read of a copy that has what its session has seen
pub read_of_copy : (s : State) (who copy : ℕ) (query : Query) (seen : Seen) (n : ℕ) (answered : Result Answer Refusal) (sessions : List Seen)
    → Some seen ≡ seen_by s.sessions who → Some n ≡ slice_get s.copies copy → has_seen_no_more seen n ≡ true
    → answered ≡ answer (first n s.history) query → sessions ≡ with_seen s.sessions who (record seen { front = n })
    → step s (Read who copy query) ≡ record { outcome = Answered answered; after = record { history = s.history; sessions = sessions; copies = s.copies } }
read_of_copy s who copy query seen n answered sessions is has enough due put =
    there s (seen_by s.sessions who) seen _ is
    ∙ (there s (slice_get s.copies copy) n _ has
    ∙ (ap (λ b. answered_after s who query seen (cond b n (operations s.history))) enough
    ∙ (ap (λ (l : List Seen). record { outcome = Answered (answer (first n s.history) query); after = record { history = s.history; sessions = l; copies = s.copies } }) (sym put)
    ∙ ap (λ (r : Result Answer Refusal). record { outcome = Answered r; after = record { history = s.history; sessions = sessions; copies = s.copies } }) (sym due))))

-- a read of a copy that lacks what its session has seen is a question to the book
pub read_as_ask : (s : State) (who copy : ℕ) (query : Query) (seen : Seen) (n : ℕ) → Some seen ≡ seen_by s.sessions who → Some n ≡ slice_get s.copies copy
    → has_seen_no_more seen n ≡ false → step s (Read who copy query) ≡ step s (Ask who query)
read_as_ask s who copy query seen n is has behind =
    there s (seen_by s.sessions who) seen _ is
    ∙ (there s (slice_get s.copies copy) n _ has
    ∙ (ap (λ b. answered_after s who query seen (cond b n (operations s.history))) behind
    ∙ sym (there s (seen_by s.sessions who) seen _ is)))

-- two sessions that met
pub met_so : (s : State) (one other : ℕ) (a b : Seen) (sessions : List Seen) → (one == other) ≡ false → Some a ≡ seen_by s.sessions one → Some b ≡ seen_by s.sessions other
    → sessions ≡ with_seen (with_seen s.sessions one (joined a b)) other (joined a b)
    → step s (Meet one other) ≡ record { outcome = Met; after = record { history = s.history; sessions = sessions; copies = s.copies } }
met_so s one other a b sessions two is too put =
    ap (λ c. cond c (skipped s) (if_there s (seen_by s.sessions one) (λ a. if_there s (seen_by s.sessions other) (met s one other a)))) two
    ∙ (there s (seen_by s.sessions one) a _ is
    ∙ (there s (seen_by s.sessions other) b _ too
    ∙ ap (λ (l : List Seen). record { outcome = Met; after = record { history = s.history; sessions = l; copies = s.copies } }) (sym put)))

-- what a step leaves is sound
pub sound-left : (s : State) (e : Event) (t : Step) → IsSound s → step s e ≡ t → IsSound t.after
sound-left s e t sound is = subst (λ (t : Step). IsSound t.after) is (sound-step s e sound)

-- a copy that took in what it lacked
pub published_so : (s : State) (copy upto n m : ℕ) (copies : List ℕ) → slice_get s.copies copy ≡ Some n → m ≡ published s.history upto n
    → copies ≡ slice_set s.copies copy m
    → step s (Publish copy upto) ≡ record { outcome = Published m; after = record { history = s.history; sessions = s.sessions; copies = copies } }
published_so s copy upto n m copies has is put =
    there s (slice_get s.copies copy) n (λ n. record { outcome = Published (published s.history upto n); after = with_copy s copy (published s.history upto n) }) (sym has)
    ∙ (ap (λ m. record { outcome = Published m; after = with_copy s copy m }) (sym is)
    ∙ ap (λ (l : List ℕ). record { outcome = Published m; after = record s { copies = l } }) (sym put))

-- the lengths of copies of which one was changed
pub lengths-set : {J : Type 0} (copies : List (LaggingCopy J)) (place : ℕ) (copy : LaggingCopy J)
    → lengths (slice_set copies place copy) ≡ slice_set (lengths copies) place copy.entries
lengths-set {J} copies place copy = map-set (λ (copy : LaggingCopy J). copy.entries) copies place copy

-- the length of the copy at a place
pub length-at : {J : Type 0} (copies : List (LaggingCopy J)) (place : ℕ) (copy : LaggingCopy J) → slice_get copies place ≡ Some copy
    → slice_get (lengths copies) place ≡ Some copy.entries
length-at {J} copies place copy there =
    slice_get-map (λ (copy : LaggingCopy J). copy.entries) copies place ∙ ap (option_map (λ (copy : LaggingCopy J). copy.entries)) there

-- what holds at every error
pub on-err : {A E : Type 0} (r : Result A E) (P : Type 0) → P → OnErr r P
on-err (Ok a) P holds = tt
on-err (Err e) P holds = holds
