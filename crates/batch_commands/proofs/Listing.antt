-- Job executions that are told of one after another.
use Rattle.std.proofs.Common.{◌≡◌, ℕ, ◌+◌, ◌≤◌, List, [], ◌++◌, Result, Ok, Err, refl, sym, ap, subst, arith, add-one}
use mathlib.Core.List.{IsPrefix}
use Rattle.batch_ids.specs.declared.refusal.Refusal.{Refusal}
use Rattle.jsl_model.specs.Jobs.{JobTree}
use Rattle.batch_history.specs.Answers.{answer}
use Rattle.batch_history.specs.Rows.{history}
use Rattle.batch_history.specs.declared.call.Entry.{Entry}
use Rattle.batch_history.specs.declared.query.Answer.{Answer}
use Rattle.batch_history.specs.declared.query.Query.TheVariants.{StepExecutions, JobExecution}
use Rattle.batch_operator.specs.Calls.{IsAnswered}
use Rattle.seat_rules.proofs.Prefixes.{prefix_self}
use Rattle.seat_rules.specs.Places.{IsLegalLog}
use Rattle.seat_rules.specs.declared.view.SessionView.{SessionView}
use Rattle.script_lines.specs.Device.{Held}
use Rattle.script_engine.specs.declared.fault.EngineFault.{EngineFault}
use Rattle.script_engine.specs.declared.fault.EngineFault.TheVariants.{Catalogue, Read, Write, OutOfMemory}
use Rattle.batch_commands.specs.Listing.{AreListed, execution_line, listed_text, text_of}
use Rattle.batch_commands.specs.Putting.{Grows, Puts}
use Rattle.batch_commands.specs.Turns.{Lists, ListsWith, ListsAll, PutsReply}
use Rattle.batch_commands.proofs.Putting.{put_nothing, grows_on, grows_broken, grows_no_more}
use Rattle.batch_commands.proofs.Replying.{puts_refused}

-- ---- One job execution

-- the record was answered, and the line is put
pub with_record : (catalogue : List JobTree) (before after : SessionView) (x : ℕ) (steps execution : Answer) (w : Held) (waited : List ℕ) (w' : Held) (waits : List ℕ) (result : Result Unit EngineFault)
    → IsAnswered catalogue before after (JobExecution x) (Ok execution) → Puts w waited w' waits (text_of steps execution) result → ListsWith catalogue before after x steps w waited w' waits result
with_record catalogue before after x steps execution w waited w' waits result A P = record {
  grows = A.sees.grows;
  legal = A.sees.legal;
  put = subst (λ a. Puts w waited w' waits (listed_text (Ok steps) a) result) (sym A.answer) P;
}

-- the record was refused
pub without_record : (catalogue : List JobTree) (before after : SessionView) (x : ℕ) (steps : Answer) (refusal : Refusal) (w : Held) (waited : List ℕ) (w' : Held) (waits : List ℕ) (result : Result Unit EngineFault)
    → IsAnswered catalogue before after (JobExecution x) (Err refusal) → PutsReply (Err refusal) w waited w' waits result → ListsWith catalogue before after x steps w waited w' waits result
without_record catalogue before after x steps refusal w waited w' waits result A P = record {
  grows = A.sees.grows;
  legal = A.sees.legal;
  put = puts_refused refusal _ w waited w' waits result (λ known. ap (listed_text (Ok steps)) (A.answer known)) P;
}

-- the step executions were answered, and the line is put
pub with_steps : (catalogue : List JobTree) (before mid after : SessionView) (x : ℕ) (steps : Answer) (w : Held) (waited : List ℕ) (w' : Held) (waits : List ℕ) (result : Result Unit EngineFault)
    → IsAnswered catalogue before mid (StepExecutions x) (Ok steps) → ListsWith catalogue mid after x steps w waited w' waits result → Lists catalogue before after x w waited w' waits result
with_steps catalogue before mid after x steps w waited w' waits result A L = record {
  log = mid.seen;
  begins = A.sees.grows;
  grows = L.grows;
  legal = L.legal;
  put = subst (λ a. Puts w waited w' waits (listed_text a (answer (history catalogue after.seen) (JobExecution x))) result) (sym A.answer) L.put;
}

-- the step executions were refused
pub without_steps : (catalogue : List JobTree) (before after : SessionView) (x : ℕ) (refusal : Refusal) (w : Held) (waited : List ℕ) (w' : Held) (waits : List ℕ) (result : Result Unit EngineFault)
    → IsAnswered catalogue before after (StepExecutions x) (Err refusal) → PutsReply (Err refusal) w waited w' waits result → Lists catalogue before after x w waited w' waits result
without_steps catalogue before after x refusal w waited w' waits result A P = record {
  log = after.seen;
  begins = A.sees.grows;
  grows = prefix_self after.seen;
  legal = A.sees.legal;
  put = puts_refused refusal _ w waited w' waits result (λ known. ap (λ a. listed_text a (answer (history catalogue after.seen) (JobExecution x))) (A.answer known)) P;
}

-- ---- All of them

-- the first so many are told of
pub record Listing (catalogue : List JobTree) (begun now : SessionView) (place : ℕ) (w : Held) (waited : List ℕ) (w' : Held) (waits : List ℕ) : Type 0 where
  pub text : List ℕ
  pub listed : AreListed catalogue begun.seen place text now.seen
  pub legal : IsLegalLog catalogue begun.seen → IsLegalLog catalogue now.seen
  pub grown : Grows w waited w' waits text

pub none_listed : (catalogue : List JobTree) (s : SessionView) (w : Held) (waited : List ℕ) → Listing catalogue s s 0 w waited w waited
none_listed catalogue s w waited = record { text = []; listed = (refl, prefix_self s.seen); legal = λ legal. legal; grown = put_nothing w waited }

-- one more line
listed_more : (catalogue : List JobTree) (begun now after : SessionView) (place : ℕ) (text : List ℕ) (log : List Entry) → AreListed catalogue begun.seen place text now.seen → IsPrefix now.seen log → IsPrefix log after.seen
    → AreListed catalogue begun.seen (place + 1) (text ++ execution_line (history catalogue log) (history catalogue after.seen) (place + 1)) after.seen
listed_more catalogue begun now after place text log L begins grows =
    subst (λ n. AreListed catalogue begun.seen n (text ++ execution_line (history catalogue log) (history catalogue after.seen) n) after.seen) (sym (add-one place))
    (now.seen, log, text, L, begins, grows, refl)

one_listed_of : (catalogue : List JobTree) (begun now after : SessionView) (place : ℕ) (w held new : Held) (waited between waits : List ℕ) → Listing catalogue begun now place w waited held between
    → Lists catalogue now after (place + 1) held between new waits (Ok tt) → Listing catalogue begun after (place + 1) w waited new waits
one_listed_of catalogue begun now after place w held new waited between waits L M = record {
  text = L.text ++ execution_line (history catalogue M.log) (history catalogue after.seen) (place + 1);
  listed = listed_more catalogue begun now after place L.text M.log L.listed M.begins M.grows;
  legal = λ _. M.legal;
  grown = grows_on w held new waited between waits L.text _ L.grown M.put;
}

pub one_listed : (catalogue : List JobTree) (begun now after : SessionView) (place x : ℕ) (w held new : Held) (waited between waits : List ℕ) → x ≡ place + 1 → Listing catalogue begun now place w waited held between
    → Lists catalogue now after x held between new waits (Ok tt) → Listing catalogue begun after (place + 1) w waited new waits
one_listed catalogue begun now after place x w held new waited between waits is L M =
    one_listed_of catalogue begun now after place w held new waited between waits L (subst (λ n. Lists catalogue now after n held between new waits (Ok tt)) is M)

pub all_listed : (catalogue : List JobTree) (begun now : SessionView) (place count : ℕ) (w w' : Held) (waited waits : List ℕ) → place ≡ count → Listing catalogue begun now place w waited w' waits → ListsAll catalogue begun now count w waited w' waits (Ok tt)
all_listed catalogue begun now place count w w' waited waits e L = record { told = place; text = L.text; last = now.seen; enough = e; listed = L.listed; legal = L.legal; put = L.grown }

-- a line is not put, or not to its end
listed_short_of : (catalogue : List JobTree) (begun now after : SessionView) (place count : ℕ) (w held new : Held) (waited between waits : List ℕ) (fault : EngineFault) → place + 1 ≤ count → Listing catalogue begun now place w waited held between
    → Lists catalogue now after (place + 1) held between new waits (Err fault) → ListsAll catalogue begun after count w waited new waits (Err fault)
listed_short_of catalogue begun now after place count w held new waited between waits (Catalogue told) within L M = absurd M.put
listed_short_of catalogue begun now after place count w held new waited between waits Read within L M = absurd M.put
listed_short_of catalogue begun now after place count w held new waited between waits Write within L M = record {
  told = place + 1;
  text = L.text ++ execution_line (history catalogue M.log) (history catalogue after.seen) (place + 1);
  last = after.seen;
  enough = within;
  listed = listed_more catalogue begun now after place L.text M.log L.listed M.begins M.grows;
  legal = λ _. M.legal;
  put = grows_broken w held new waited between L.text _ L.grown M.put;
}
listed_short_of catalogue begun now after place count w held new waited between waits OutOfMemory within L M = record {
  told = place;
  text = L.text;
  last = now.seen;
  enough = omega (arith, within);
  listed = L.listed;
  legal = L.legal;
  put = grows_no_more w held new waited between waits L.text L.grown M.put;
}

pub listed_short : (catalogue : List JobTree) (begun now after : SessionView) (place x count : ℕ) (w held new : Held) (waited between waits : List ℕ) (fault : EngineFault) → x ≡ place + 1 → place + 1 ≤ count → Listing catalogue begun now place w waited held between
    → Lists catalogue now after x held between new waits (Err fault) → ListsAll catalogue begun after count w waited new waits (Err fault)
listed_short catalogue begun now after place x count w held new waited between waits fault is within L M =
    listed_short_of catalogue begun now after place count w held new waited between waits fault within L (subst (λ n. Lists catalogue now after n held between new waits (Err fault)) is M)
