-- What stands for a history answers for it, and stands for it after a call too.
use Rattle.std.proofs.Common.{◌≡◌, ℕ, true, false, cond, Result, Ok, Err, IfOk, OnOk, refl, subst, sym, ◌∙◌, ap}
use Rattle.batch_ids.specs.declared.refusal.Refusal.{Refusal}
use Rattle.batch_history.proofs.Legal.{legal_grown}
use Rattle.batch_history.proofs.Legality.{rows_grown}
use Rattle.batch_history.specs.NextRows.{rows_after}
use Rattle.batch_history.specs.Answers.{answer, answer_by}
use Rattle.batch_history.specs.Due.{IsDue}
use Rattle.batch_history.specs.Replies.{is_nothing, reply, reply_by}
use Rattle.batch_history.specs.Rows.{History, Rows}
use Rattle.batch_history.specs.Legal.{IsLegal, after_call, grown}
use Rattle.batch_history.specs.declared.call.Call.{Call}
use Rattle.batch_history.specs.declared.call.Entry.{Entry}
use Rattle.batch_history.specs.declared.call.Reply.{Reply}
use Rattle.batch_history.specs.declared.query.Answer.{Answer}
use Rattle.batch_history.specs.declared.query.Query.{Query}
use Rattle.seq_repository.proofs.Replying.{next_due, next_entered}
use Rattle.seq_repository.specs.Kept.{Kept, rows_in, StandsFor, IsNext}

-- a reply that is due by the rows is due after the history
pub due_for : (limit : ℕ) (kept : Kept) (h : History) (who : ℕ) (call : Call) (result : Result Reply Refusal) → StandsFor kept h
    → IsDue result (reply_by limit (rows_in kept) who call) → IsDue result (reply limit h who call)
due_for limit kept h who call result stands due = subst (λ (r : Rows). IsDue result (reply_by limit r who call)) stands due

-- so is an answer
pub answer_for : (kept : Kept) (h : History) (query : Query) (result : Result Answer Refusal) → StandsFor kept h
    → IsDue result (answer_by (rows_in kept) query) → IsDue result (answer h query)
answer_for kept h query result stands due = subst (λ (r : Rows). IsDue result (answer_by r query)) stands due

-- it stands for the history with an operation that it enters
pub stands_after : (limit : ℕ) (kept new : Kept) (h : History) (e : Entry) → IsLegal limit h → StandsFor kept h
    → reply_by limit (rows_in kept) e.who e.call ≡ Ok e.reply → is_nothing e.reply ≡ false → rows_in new ≡ rows_after (rows_in kept) e → StandsFor new (grown h e)
stands_after limit kept new h e legal stands due entered is =
    let due_h : reply limit h e.who e.call ≡ Ok e.reply = sym (ap (λ (r : Rows). reply_by limit r e.who e.call) stands) ∙ due in
    is
    ∙ (ap (λ (r : Rows). rows_after r e) stands
    ∙ sym (rows_grown limit h e (legal_grown limit h e legal due_h entered)))

-- it stands, after a call, for the history after the call
pub stands_call : (limit : ℕ) (kept new : Kept) (h : History) (who : ℕ) (call : Call) (at : ℕ) (given : Reply) → IsLegal limit h → StandsFor kept h
    → reply_by limit (rows_in kept) who call ≡ Ok given
    → rows_in new ≡ cond (is_nothing given) (rows_in kept) (rows_after (rows_in kept) record { who = who; call = call; at = at; reply = given })
    → StandsFor new (after_call h who call at given)
stands_call limit kept new h who call at given legal stands due is =
    let e : Entry = record { who = who; call = call; at = at; reply = given } in
    (elim (is_nothing given) as (λ b. is_nothing given ≡ b → rows_in new ≡ cond b (rows_in kept) (rows_after (rows_in kept) e) → StandsFor new (cond b h (grown h e))) [
      | true ↦ λ nothing s. s ∙ stands
      | false ↦ λ entered s. stands_after limit kept new h e legal stands due entered s
    ]) refl is

pub stands_result : (limit : ℕ) (kept new : Kept) (h : History) (who : ℕ) (call : Call) (at : ℕ) (result : Result Reply Refusal) → IsLegal limit h → StandsFor kept h
    → IsDue result (reply_by limit (rows_in kept) who call)
    → IfOk result (λ given. rows_in new ≡ cond (is_nothing given) (rows_in kept) (rows_after (rows_in kept) record { who = who; call = call; at = at; reply = given }))
    → IfOk result (λ given. StandsFor new (after_call h who call at given))
stands_result limit kept new h who call at (Ok given) legal stands due is = stands_call limit kept new h who call at given legal stands due is
stands_result limit kept new h who call at (Err refusal) legal stands due is = tt

-- it stands, after an entry, for the history with the entry
pub stands_entered : {T E : Type 0} (limit : ℕ) (kept new : Kept) (h : History) (e : Entry) (result : Result T E) → IsLegal limit h → StandsFor kept h
    → IsNext limit kept e → OnOk result (rows_in new ≡ rows_after (rows_in kept) e) → OnOk result (StandsFor new (grown h e))
stands_entered limit kept new h e (Ok done) legal stands next is =
    stands_after limit kept new h e legal stands (next_due limit kept e next) (next_entered limit kept e next) is
stands_entered limit kept new h e (Err refused) legal stands next is = tt
