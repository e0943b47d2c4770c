-- What an operator answers, as reports of its session.
use Rattle.std.proofs.Common.{◌≡◌, ℕ, ◌++◌, List, [], ◌∷◌, refl, sym, ap, ◌∙◌, subst, Option, None, Some, Result, Ok, Err, Bool, true, false, cond, find, filter_map, nat_lt, append-nil}
use Rattle.std.proofs.lemmas.List.Elements.{filter_map-append}
use Rattle.std.specs.List.{Contains}
use Rattle.batch_history.specs.Legal.{most_operations}
use Rattle.batch_history.specs.Replies.{accepted, go_or_stop, is_nothing, reply_to_checkpoint, reply_to_end, reply_to_finish, reply_to_kept_checkpoint, reply_to_stopped_step, reply_to_stopped_work, report_refusal, stop_requested_of, unless}
use Rattle.batch_history.specs.Rows.{Rows, history, rows}
use Rattle.batch_history.specs.Works.{is_work}
use Rattle.batch_history.specs.declared.call.Call.{Call}
use Rattle.batch_history.specs.declared.call.Call.TheVariants.{Checkpoint, Finish}
use Rattle.batch_history.specs.declared.call.Entry.{Entry}
use Rattle.batch_history.specs.declared.call.Reply.{Reply}
use Rattle.batch_history.specs.declared.call.Reply.TheVariants.{Done}
use Rattle.batch_history.specs.declared.call.WorkKind.{WorkKind}
use Rattle.batch_history.specs.declared.call.WorkKind.TheVariants.{Batchlet, Chunk, Decision}
use Rattle.batch_history.specs.declared.rows.WorkRow.{WorkRow}
use Rattle.batch_ids.specs.declared.metric_step.MetricStep.{MetricStep}
use Rattle.batch_ids.specs.declared.refusal.Refusal.{Refusal}
use Rattle.batch_ids.specs.declared.refusal.Refusal.TheVariants.{RepositoryFull}
use Rattle.batch_ids.specs.declared.status.WorkOutcome.{WorkOutcome}
use Rattle.batch_ids.specs.declared.status.WorkOutcome.TheVariants.{Completed, Failed, Stopped}
use Rattle.batch_operator.specs.Calls.{IsReplied}
use Rattle.jsl_model.specs.Jobs.{JobTree}
use Rattle.seat_rules.specs.declared.view.SessionView.{SessionView}
use Rattle.sessions.specs.Answered.{entered, operation}
use Rattle.job_threads.specs.declared.report.Onward.{Onward}
use Rattle.job_threads.specs.declared.report.Report.{Report}
use Rattle.job_threads.specs.declared.report.Report.TheVariants.{Checkpoint as Reported, Finish as Finished}
use Rattle.job_threads.specs.Ports.{StaySeen, onward_of, report_by, report_of_entry, reports_in}

-- ---- An accepted report is entered

accepted-is : (b : Bool) (reply given : Reply) → cond b (Ok reply) (Err RepositoryFull) ≡ Ok given → reply ≡ given
accepted-is true reply given is = cc
accepted-is false reply given is = cc

not-nothing : (limit count : ℕ) (reply given : Reply) → is_nothing reply ≡ false → accepted limit count reply ≡ Ok given → is_nothing given ≡ false
not-nothing limit count reply given some is = sym (ap is_nothing (accepted-is (nat_lt count limit) reply given is)) ∙ some

go-on : (stop : Bool) → is_nothing (go_or_stop stop) ≡ false
go-on true = refl
go-on false = refl

kept-entered : (limit count : ℕ) (stop : Bool) (kind : WorkKind) (given : Reply) → reply_to_kept_checkpoint limit count stop kind ≡ Ok given → is_nothing given ≡ false
kept-entered limit count stop Chunk given is = not-nothing limit count (go_or_stop stop) given (go-on stop) is
kept-entered limit count stop Batchlet given is = cc
kept-entered limit count stop Decision given is = cc

unless-ok : (refusal : Option Refusal) (due : Result Reply Refusal) (given : Reply) → unless refusal due ≡ Ok given → due ≡ Ok given
unless-ok None due given is = is
unless-ok (Some refusal) due given is = cc

checkpoint-entered : (limit : ℕ) (r : Rows) (who : ℕ) (found : Option WorkRow) (given : Reply) → reply_to_checkpoint limit r who found ≡ Ok given → is_nothing given ≡ false
checkpoint-entered limit r who None given is = cc
checkpoint-entered limit r who (Some row) given is =
    kept-entered limit r.count (stop_requested_of r row.execution) row.kind given (unless-ok (report_refusal who row.claimer row.state) _ given is)

step-entered : (limit count : ℕ) (stop : Bool) (given : Reply) → reply_to_stopped_step limit count stop ≡ Ok given → is_nothing given ≡ false
step-entered limit count true given is = not-nothing limit count Done given refl is
step-entered limit count false given is = cc

stopped-entered : (limit count : ℕ) (stop : Bool) (kind : WorkKind) (given : Reply) → reply_to_stopped_work limit count stop kind ≡ Ok given → is_nothing given ≡ false
stopped-entered limit count stop Decision given is = cc
stopped-entered limit count stop Batchlet given is = step-entered limit count stop given is
stopped-entered limit count stop Chunk given is = step-entered limit count stop given is

end-entered : (limit count : ℕ) (stop : Bool) (kind : WorkKind) (outcome : WorkOutcome) (given : Reply) → reply_to_end limit count stop kind outcome ≡ Ok given → is_nothing given ≡ false
end-entered limit count stop kind Stopped given is = stopped-entered limit count stop kind given is
end-entered limit count stop kind Completed given is = not-nothing limit count Done given refl is
end-entered limit count stop kind Failed given is = not-nothing limit count Done given refl is

finish-entered : (limit : ℕ) (r : Rows) (who : ℕ) (outcome : WorkOutcome) (found : Option WorkRow) (given : Reply) → reply_to_finish limit r who outcome found ≡ Ok given → is_nothing given ≡ false
finish-entered limit r who outcome None given is = cc
finish-entered limit r who outcome (Some row) given is =
    end-entered limit r.count (stop_requested_of r row.execution) row.kind outcome given (unless-ok (report_refusal who row.claimer row.state) _ given is)

-- ---- The reports of the session

-- an operation more
one-more : (mine : List Entry) (who : ℕ) (call : Call) (at : ℕ) (reply : Reply) → is_nothing reply ≡ false → entered mine who call at (Ok reply) ≡ mine ++ operation who call at reply ∷ []
one-more mine who call at reply some = ap (λ b. cond b mine (mine ++ operation who call at reply ∷ [])) some

mine-after : (catalogue : List JobTree) (before after : SessionView) (call : Call) (at : ℕ) (reply : Reply) → is_nothing reply ≡ false → IsReplied catalogue before after call at (Ok reply)
    → reports_in after.mine ≡ reports_in before.mine ++ filter_map report_of_entry (operation before.number call at reply ∷ [])
mine-after catalogue before after call at reply some replied =
    ap (λ (s : SessionView). reports_in s.mine) replied.session
    ∙ (ap reports_in (one-more before.mine before.number call at reply some) ∙ filter_map-append report_of_entry before.mine (operation before.number call at reply ∷ []))

pub checkpoint_reports : (catalogue : List JobTree) (before after : SessionView) (w : ℕ) (mark : List ℕ) (step : MetricStep) (at : ℕ) (result : Result Reply Refusal) (reply : Reply) (onward : Onward)
    → result ≡ Ok reply → onward ≡ onward_of reply → IsReplied catalogue before after (Checkpoint w mark step) at result
    → reports_in after.mine ≡ reports_in before.mine ++ Reported w mark step at onward ∷ []
checkpoint_reports catalogue before after w mark step at result reply onward is told replied =
    let ok : IsReplied catalogue before after (Checkpoint w mark step) at (Ok reply) = subst (IsReplied catalogue before after (Checkpoint w mark step) at) is replied in
    mine-after catalogue before after (Checkpoint w mark step) at reply
    (checkpoint-entered most_operations (rows (history catalogue ok.log)) before.number (find (is_work w) (rows (history catalogue ok.log)).works) reply ok.reply) ok
    ∙ ap (λ o. reports_in before.mine ++ Reported w mark step at o ∷ []) (sym told)

pub finish_reports : (catalogue : List JobTree) (before after : SessionView) (w : ℕ) (outcome : WorkOutcome) (exit : Option (List ℕ)) (step : MetricStep) (at : ℕ) (result : Result Reply Refusal) (reply : Reply)
    → result ≡ Ok reply → IsReplied catalogue before after (Finish w outcome exit step) at result
    → reports_in after.mine ≡ reports_in before.mine ++ Finished w outcome exit step at ∷ []
finish_reports catalogue before after w outcome exit step at result reply is replied =
    let ok : IsReplied catalogue before after (Finish w outcome exit step) at (Ok reply) = subst (IsReplied catalogue before after (Finish w outcome exit step) at) is replied in
    mine-after catalogue before after (Finish w outcome exit step) at reply
    (finish-entered most_operations (rows (history catalogue ok.log)) before.number outcome (find (is_work w) (rows (history catalogue ok.log)).works) reply ok.reply) ok

-- what is no report leaves them
left-alone : (reports : List Report) (e : Entry) → report_of_entry e ≡ None → reports ++ filter_map report_of_entry (e ∷ []) ≡ reports
left-alone reports e none = rw none (append-nil reports)

none-more : (mine : List Entry) (who : ℕ) (call : Call) (at : ℕ) (result : Result Reply Refusal) → ((reply : Reply) → report_by call at reply ≡ None) → reports_in (entered mine who call at result) ≡ reports_in mine
none-more mine who call at (Err refusal) none = refl
none-more mine who call at (Ok reply) none =
    elim (is_nothing reply) as (λ b. reports_in (cond b mine (mine ++ operation who call at reply ∷ [])) ≡ reports_in mine) [
      | true ↦ refl
      | false ↦ filter_map-append report_of_entry mine (operation who call at reply ∷ []) ∙ left-alone (reports_in mine) (operation who call at reply) (none reply)
    ]

pub other_reports : (catalogue : List JobTree) (before after : SessionView) (call : Call) (at : ℕ) (result : Result Reply Refusal) → ((reply : Reply) → report_by call at reply ≡ None)
    → IsReplied catalogue before after call at result → reports_in after.mine ≡ reports_in before.mine
other_reports catalogue before after call at result none replied =
    ap (λ (s : SessionView). reports_in s.mine) replied.session ∙ none-more before.mine before.number call at result none

-- nor what was refused
pub refused_reports : (catalogue : List JobTree) (before after : SessionView) (call : Call) (at : ℕ) (refusal : Refusal)
    → IsReplied catalogue before after call at (Err refusal) → reports_in after.mine ≡ reports_in before.mine ++ []
refused_reports catalogue before after call at refusal replied =
    ap (λ (s : SessionView). reports_in s.mine) replied.session ∙ sym (append-nil (reports_in before.mine))

-- the stops stay
pub replied_stops : (catalogue : List JobTree) (before after : SessionView) (call : Call) (at : ℕ) (result : Result Reply Refusal) → IsReplied catalogue before after call at result → StaySeen before.stops after.stops
replied_stops catalogue before after call at result replied x seen =
    subst (λ (stops : List ℕ). Contains stops x) (sym (ap (λ (s : SessionView). s.stops) replied.session)) seen
