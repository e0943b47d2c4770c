-- What a desk's answer is to the session that asked.
use Rattle.std.proofs.Common.{◌≡◌, ℕ, ◌≤◌, Bool, true, false, nat_lt, if◌then◌else◌, Option, Some, None, Result, Ok, Err, List, [], ◌∷◌, ◌++◌, find, length, refl, sym, ◌∙◌, ap, subst, arith, length-append}
use mathlib.Core.List.{IsPrefix}
use Rattle.batch_history.specs.Answers.{answer}
use Rattle.batch_history.specs.Due.{IsDue}
use Rattle.batch_history.specs.Replies.{accepted, is_execution, is_nothing, reply, reply_to_stop, row_status}
use Rattle.batch_history.specs.Rows.{Rows, rows, history}
use Rattle.batch_history.specs.Statuses.{is_finished}
use Rattle.batch_history.specs.declared.call.Call.{Call}
use Rattle.batch_history.specs.declared.call.Call.TheVariants.{Stop}
use Rattle.batch_history.specs.declared.call.Entry.{Entry}
use Rattle.batch_history.specs.declared.call.Reply.{Reply}
use Rattle.batch_history.specs.declared.call.Reply.TheVariants.{Done}
use Rattle.batch_history.specs.declared.query.Answer.{Answer}
use Rattle.batch_history.specs.declared.query.Query.{Query}
use Rattle.batch_history.specs.declared.rows.ExecutionRow.{ExecutionRow}
use Rattle.batch_ids.specs.declared.refusal.Refusal.{Refusal}
use Rattle.batch_ids.specs.declared.refusal.Refusal.TheVariants.{JobExecutionNotRunningException, RepositoryFull}
use Rattle.jsl_model.specs.Jobs.{JobTree}
use Rattle.seat_rules.proofs.Prefixes.{prefix_length, prefix_self, prefix_trans}
use Rattle.seat_rules.specs.Places.{IsLegalLog}
use Rattle.batch_history.specs.Legal.{entries_by, most_operations}
use Rattle.seat_rules.specs.Views.{Each, HasStop, informed}
use Rattle.seat_rules.specs.declared.view.SessionView.{SessionView}
use Rattle.sessions.specs.Answered.{entered, moved_on, operation}
use Rattle.batch_operator.specs.Calls.{IsAnswered, IsReplied}

-- ---- Calls

entered_by : (b : Bool) (log more : List Entry) → IsPrefix log (if b then log else log ++ more)
entered_by true log more = prefix_self log
entered_by false log more = (more, refl)

-- a log is a beginning of what it is after a call
entered_longer : (log : List Entry) (who : ℕ) (call : Call) (at : ℕ) (result : Result Reply Refusal) → IsPrefix log (entered log who call at result)
entered_longer log who call at (Ok r) = entered_by (is_nothing r) log (operation who call at r ∷ [])
entered_longer log who call at (Err refusal) = prefix_self log

-- the answer of a desk whose log this was
pub replied : (limit : ℕ) (catalogue : List JobTree) (v w : SessionView) (log now : List Entry) (call : Call) (at : ℕ) (result : Result Reply Refusal)
    → limit ≡ most_operations → IsDue result (reply limit (history catalogue log) v.number call) → now ≡ entered log v.number call at result
    → w ≡ moved_on v now (entered v.mine v.number call at result) → IsPrefix v.seen log → entries_by w.number w.seen ≡ w.mine
    → IsLegalLog catalogue now → v.least ≤ length log → Each (HasStop w.seen v.least) v.stops → IsReplied catalogue v w call at result
replied limit catalogue v w log now call at result full due now_is w_is begins own legal least stops =
    let seen : w.seen ≡ now = ap (λ (s : SessionView). s.seen) w_is in
    let longer : IsPrefix log w.seen = subst (IsPrefix log) (sym (seen ∙ now_is)) (entered_longer log v.number call at result) in
    let long = prefix_length log w.seen longer in
    record {
      log = log;
      begins = begins;
      reply = subst (λ (l : ℕ). IsDue result (reply l (history catalogue log) v.number call)) full due;
      session = w_is ∙ ap (λ (l : List Entry). moved_on v l (entered v.mine v.number call at result)) now_is;
      sees = record {
        grows = prefix_trans v.seen log w.seen begins longer;
        legal = subst (IsLegalLog catalogue) (sym seen) legal;
        least = omega arith;
        own = own;
        stops = stops;
      };
    }

-- ---- Queries

-- the answer of a desk whose log the session then has seen
pub answered : (catalogue : List JobTree) (v w : SessionView) (log : List Entry) (query : Query) (result : Result Answer Refusal)
    → IsDue result (answer (history catalogue log) query) → w ≡ informed log v → IsPrefix v.seen w.seen → entries_by w.number w.seen ≡ w.mine
    → IsLegalLog catalogue w.seen → v.least ≤ length w.seen → Each (HasStop w.seen v.least) v.stops → IsAnswered catalogue v w query result
answered catalogue v w log query result due w_is grows own legal least stops =
    let seen : w.seen ≡ log = ap (λ (s : SessionView). s.seen) w_is in
    record {
      answer = subst (λ (l : List Entry). IsDue result (answer (history catalogue l) query)) (sym seen) due;
      session = w_is ∙ ap (λ (l : List Entry). informed l v) (sym seen);
      sees = record { grows = grows; legal = legal; least = least; own = own; stops = stops };
    }
