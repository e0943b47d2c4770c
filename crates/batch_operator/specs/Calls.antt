-- The promises of an operator's calls to a session.
use Rattle.std.specs.Prelude.{ℕ, ◌≡◌, ◌≤◌, List, length, Result}
use mathlib.Core.List.{IsPrefix}
use Rattle.batch_history.specs.Answers.{answer}
use Rattle.batch_history.specs.Due.{IsDue}
use Rattle.batch_history.specs.Replies.{reply}
use Rattle.batch_history.specs.declared.call.Call.{Call}
use Rattle.batch_history.specs.declared.call.Entry.{Entry}
use Rattle.batch_history.specs.declared.call.Reply.{Reply}
use Rattle.batch_history.specs.declared.query.Answer.{Answer}
use Rattle.batch_history.specs.declared.query.Query.{Query}
use Rattle.batch_ids.specs.declared.refusal.Refusal.{Refusal}
use Rattle.jsl_model.specs.Jobs.{JobTree}
use Rattle.seat_rules.specs.Places.{IsLegalLog}
use Rattle.batch_history.specs.Legal.{entries_by, most_operations}
use Rattle.seat_rules.specs.Views.{Each, HasStop, informed}
use Rattle.seat_rules.specs.declared.view.SessionView.{SessionView}
use Rattle.batch_history.specs.Rows.{history}
use Rattle.sessions.specs.Answered.{entered, moved_on}

-- a session before and after a call that sees the log. The operations seen after it are legal, and begin with
-- those seen before. They are at least as many as the session was shown. They have all of its own operations
-- and no others of its number, and the stops that it had found
pub record SeesMore (catalogue : List JobTree) (before after : SessionView) : Type 0 where
  pub grows : IsPrefix before.seen after.seen
  pub legal : IsLegalLog catalogue after.seen
  pub least : before.least ≤ length after.seen
  pub own : entries_by after.number after.seen ≡ after.mine
  pub stops : Each (HasStop after.seen before.least) before.stops

-- a call is replied to after some operations of one history, which begin with those that the session had
-- seen. The result is the one due after them, unless memory was refused. An accepted operation is then the
-- last that the session has seen, and the last of its own. A refused call and a claim with the reply Nothing
-- are not entered
pub record IsReplied (catalogue : List JobTree) (before after : SessionView) (call : Call) (at : ℕ) (result : Result Reply Refusal) : Type 0 where
  pub log : List Entry
  pub begins : IsPrefix before.seen log
  pub reply : IsDue result (reply most_operations (history catalogue log) before.number call)
  pub session : after ≡ moved_on before (entered log before.number call at result) (entered before.mine before.number call at result)
  pub sees : SeesMore catalogue before after

-- a query is answered after the operations that the session has seen then. The result is the one due after
-- them, unless memory was refused
pub record IsAnswered (catalogue : List JobTree) (before after : SessionView) (query : Query) (result : Result Answer Refusal) : Type 0 where
  pub answer : IsDue result (answer (history catalogue after.seen) query)
  pub session : after ≡ informed after.seen before
  pub sees : SeesMore catalogue before after
