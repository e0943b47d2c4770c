-- A reply that is put is the one that is due.
use Rattle.std.proofs.Common.{◌≡◌, ◌∙◌, ℕ, ◌+◌, ◌≤◌, Bool, true, false, cond, List, [], ◌∷◌, ◌++◌, length, Result, Ok, Err, refl, sym, ap, subst, arith, length-append}
use Rattle.std.specs.Prelude.{is_ok}
use Rattle.batch_ids.specs.Refusals.{is_out_of_memory}
use Rattle.batch_ids.specs.declared.refusal.Refusal.{Refusal}
use Rattle.batch_ids.specs.declared.refusal.Refusal.TheVariants.{JobStartException, RepositoryFull}
use Rattle.batch_ids.specs.Parameters.{Pair}
use Rattle.jsl_model.specs.Jobs.{JobTree}
use Rattle.batch_history.specs.Due.{IsDue}
use Rattle.batch_history.specs.Legal.{entries_by, grown, history_after, most_operations}
use Rattle.batch_history.specs.Replies.{is_nothing, reply}
use Rattle.batch_history.specs.Rows.{History, history}
use Rattle.batch_history.specs.declared.call.Call.{Call}
use Rattle.batch_history.specs.declared.call.Call.TheVariants.{Start}
use Rattle.batch_history.specs.declared.call.Entry.{Entry}
use Rattle.batch_history.specs.declared.call.Reply.{Reply}
use Rattle.batch_history.specs.declared.call.Reply.TheVariants.{Execution}
use Rattle.batch_operator.specs.Calls.{IsReplied}
use Rattle.seat_rules.proofs.Prefixes.{entries_short}
use Rattle.seat_rules.specs.Views.{one_if}
use Rattle.seat_rules.specs.declared.view.SessionView.{SessionView}
use Rattle.sessions.specs.Answered.{entered, operation}
use Rattle.script_lines.specs.Device.{Held}
use Rattle.script_text.specs.Replies.{reply_text}
use Rattle.script_text.specs.declared.command.Command.TheVariants.{Act}
use Rattle.script_engine.specs.declared.fault.EngineFault.{EngineFault}
use Rattle.script_engine.specs.declared.fault.EngineFault.TheVariants.{Catalogue, Read, Write, OutOfMemory}
use Rattle.script_engine.specs.Script.{history_for}
use Rattle.batch_commands.specs.Putting.{Grows, Breaks, Puts}
use Rattle.batch_commands.specs.Starts.{made_by, made_for}
use Rattle.batch_commands.specs.Turns.{GoesOn, PutsReply, TurnsTo, wants_memory}

-- a result that isn't want of memory is the one that is due
pub due_is : {R : Type 0} (result due : Result R Refusal) → IsDue result due → wants_memory result ≡ false → due ≡ result
due_is (Ok answer) due d w = d
due_is (Err refusal) due d w = d w

-- a refusal's line is put for a text that is that line
pub puts_refused : (refusal : Refusal) (text : List ℕ) (w : Held) (waited : List ℕ) (w' : Held) (waits : List ℕ) (result : Result Unit EngineFault)
    → (is_out_of_memory refusal ≡ false → text ≡ reply_text (Err refusal)) → PutsReply (Err refusal) w waited w' waits result → Puts w waited w' waits text result
puts_refused refusal text w waited w' waits (Ok done) e (known, G) = subst (λ t. Grows w waited w' waits t) (sym (e known)) G
puts_refused refusal text w waited w' waits (Err (Catalogue fault)) e P = absurd P
puts_refused refusal text w waited w' waits (Err Read) e P = absurd P
puts_refused refusal text w waited w' waits (Err Write) e (known, B) = subst (λ t. Breaks w waited w' t) (sym (e known)) B
puts_refused refusal text w waited w' waits (Err OutOfMemory) e G = G

-- ---- Starts

is_something : (known within : Bool) (n : ℕ) (r : Reply) → cond known (cond within (Ok (Execution n)) (Err RepositoryFull)) (Err JobStartException) ≡ Ok r → is_nothing r ≡ false
is_something true true n r e = let same : Execution n ≡ r = cc in ap is_nothing (sym same)
is_something true false n r e = absurd (cc)
is_something false within n r e = absurd (cc)

-- the reply to a start is never Nothing
start_is_something : (h : History) (who : ℕ) (job : List ℕ) (parameters : List Pair) (r : Reply) → reply most_operations h who (Start job parameters) ≡ Ok r → is_nothing r ≡ false
start_is_something h who job parameters r e = is_something _ _ _ r e

entered_as : (nothing : Bool) (catalogue : List JobTree) (log : List Entry) (e : Entry) → cond nothing log (log ++ e ∷ []) ≡ (cond nothing (history catalogue log) (grown (history catalogue log) e)).log
entered_as true catalogue log e = refl
entered_as false catalogue log e = refl

-- the operations after a call are those of the history after it
entered_is : (catalogue : List JobTree) (log : List Entry) (who : ℕ) (call : Call) (at : ℕ) (result : Result Reply Refusal) → entered log who call at result ≡ (history_after (history catalogue log) who call at result).log
entered_is catalogue log who call at (Ok r) = entered_as (is_nothing r) catalogue log (operation who call at r)
entered_is catalogue log who call at (Err refusal) = refl

one_longer : (nothing : Bool) (mine : List Entry) (e : Entry) → nothing ≡ false → length (cond nothing mine (mine ++ e ∷ [])) ≡ length mine + 1
one_longer nothing mine e accepted = ap (λ b. length (cond b mine (mine ++ e ∷ []))) accepted ∙ length-append mine (e ∷ [])

-- a session has one operation more if its call was accepted
own_longer : (mine : List Entry) (who : ℕ) (call : Call) (at : ℕ) (result : Result Reply Refusal) → ((r : Reply) → result ≡ Ok r → is_nothing r ≡ false) → length (entered mine who call at result) ≡ length mine + made_by result
own_longer mine who call at (Ok r) something = one_longer (is_nothing r) mine (operation who call at r) (something r refl)
own_longer mine who call at (Err refusal) something = omega arith

-- a start that was answered takes its session on
pub start_goes_on : (catalogue : List JobTree) (before after : SessionView) (job : List ℕ) (parameters : List Pair) (result : Result Reply Refusal)
    → (R : IsReplied catalogue before after (Start job parameters) 0 result) → wants_memory result ≡ false
    → GoesOn catalogue before after R.log (history_for (history catalogue R.log) (Act before.number 0 (Start job parameters))).log (made_for (history catalogue R.log) (Act before.number 0 (Start job parameters)))
start_goes_on catalogue before after job parameters result R known =
    let h = history catalogue R.log in
    let call = Start job parameters in
    let due : reply most_operations h before.number call ≡ result = due_is result _ R.reply known in
    let something : (r : Reply) → result ≡ Ok r → is_nothing r ≡ false = λ r e. start_is_something h before.number job parameters r (due ∙ e) in
    let short = entries_short after.number after.seen in
    let mine : length (entries_by after.number after.seen) ≡ length after.mine = ap length R.sees.own in
    let within : length after.seen ≤ most_operations = R.sees.legal.within in
    record {
      begins = R.begins;
      seen = ap (λ (s : SessionView). s.seen) R.session ∙ entered_is catalogue R.log before.number call 0 result ∙ ap (λ d. (history_after h before.number call 0 d).log) (sym due);
      number = ap (λ (s : SessionView). s.number) R.session;
      legal = λ _. R.sees.legal;
      own = ap (λ (s : SessionView). length s.mine) R.session ∙ own_longer before.mine before.number call 0 result something ∙ ap (λ d. length before.mine + made_by d) (sym due);
      few = λ _. omega arith;
    }

made_as : (result : Result Reply Refusal) (is_made : Bool) → is_made ≡ is_ok result → one_if is_made ≡ made_by result
made_as (Ok r) is_made e = ap one_if e
made_as (Err refusal) is_made e = ap one_if e

-- the reply to a start is put
pub start_put : (catalogue : List JobTree) (before after : SessionView) (job : List ℕ) (parameters : List Pair) (result : Result Reply Refusal) (is_made : Bool) (w : Held) (waited : List ℕ) (w' : Held) (waits : List ℕ)
    → IsReplied catalogue before after (Start job parameters) 0 result → is_made ≡ is_ok result → PutsReply result w waited w' waits (Ok tt)
    → TurnsTo catalogue before after (Act before.number 0 (Start job parameters)) w waited w' waits (Ok is_made)
start_put catalogue before after job parameters result is_made w waited w' waits R e (known, G) =
    let h = history catalogue R.log in
    let due : reply most_operations h before.number (Start job parameters) ≡ result = due_is result _ R.reply known in (
      R.log,
      start_goes_on catalogue before after job parameters result R known,
      made_as result is_made e ∙ ap made_by (sym due),
      subst (λ r. Grows w waited w' waits (reply_text r)) (sym due) G,
    )

-- the reply to a start is not put to its end
pub start_failed : (catalogue : List JobTree) (before after : SessionView) (job : List ℕ) (parameters : List Pair) (result : Result Reply Refusal) (fault : EngineFault) (w : Held) (waited : List ℕ) (w' : Held) (waits : List ℕ)
    → IsReplied catalogue before after (Start job parameters) 0 result → PutsReply result w waited w' waits (Err fault)
    → TurnsTo catalogue before after (Act before.number 0 (Start job parameters)) w waited w' waits (Err fault)
start_failed catalogue before after job parameters result (Catalogue told) w waited w' waits R P = absurd P
start_failed catalogue before after job parameters result Read w waited w' waits R P = absurd P
start_failed catalogue before after job parameters result Write w waited w' waits R (known, B) =
    let h = history catalogue R.log in
    let due : reply most_operations h before.number (Start job parameters) ≡ result = due_is result _ R.reply known in
    (R.log, start_goes_on catalogue before after job parameters result R known, subst (λ r. Breaks w waited w' (reply_text r)) (sym due) B)
start_failed catalogue before after job parameters result OutOfMemory w waited w' waits R G = G

-- a line is put, of a reply that isn't want of memory
pub puts_known : (reply : Result Reply Refusal) (w : Held) (waited : List ℕ) (w' : Held) (waits : List ℕ) (result : Result Unit EngineFault) → wants_memory reply ≡ false → Puts w waited w' waits (reply_text reply) result
    → PutsReply reply w waited w' waits result
puts_known reply w waited w' waits (Ok done) known G = (known, G)
puts_known reply w waited w' waits (Err (Catalogue fault)) known P = absurd P
puts_known reply w waited w' waits (Err Read) known P = absurd P
puts_known reply w waited w' waits (Err Write) known B = (known, B)
puts_known reply w waited w' waits (Err OutOfMemory) known G = G
