-- What a restart is answered, by what the rules of restarts say.
use Rattle.std.proofs.Common.{◌≡◌, ℕ, ◌+◌, Option, None, Some, Result, Ok, Err, refl, ap, sym, ◌∙◌}
use Rattle.batch_ids.specs.declared.refusal.Refusal.{Refusal}
use Rattle.batch_history.specs.Replies.{accepted, reply_to_restart, restart_refusal, restart_plan, unless}
use Rattle.batch_history.specs.Rows.{Rows}
use Rattle.batch_history.specs.declared.call.Reply.{Reply}
use Rattle.batch_history.specs.declared.call.Reply.TheVariants.{Execution as IsExecution}
use Rattle.batch_history.specs.declared.rows.ExecutionRow.{ExecutionRow}
use Rattle.batch_history.proofs.Legal.{entered-is}
use Rattle.job_plans.specs.declared.plan.Plan.{Plan}
use Rattle.restart_rules.specs.Restarting.{plan_due_for, plan_unless}

unless-planned : (refusal : Option Refusal) (plan given : Plan) (reply : Result Reply Refusal) → plan_unless refusal plan ≡ Ok given → unless refusal reply ≡ reply
unless-planned None plan given reply e = refl
unless-planned (Some refusal) plan given reply e = cc

pub planned_reply : (limit : ℕ) (r : Rows) (found : Option ExecutionRow) (plan : Plan) → plan_due_for r found ≡ Ok plan
    → reply_to_restart limit r found ≡ accepted limit r.count (IsExecution (r.last.execution + 1))
planned_reply limit r None plan e = cc
planned_reply limit r (Some row) plan e = unless-planned (restart_refusal r row) (restart_plan r row) plan _ e

unless-refused : (refusal : Option Refusal) (plan : Plan) (given : Refusal) (reply : Result Reply Refusal) → plan_unless refusal plan ≡ Err given → unless refusal reply ≡ Err given
unless-refused None plan given reply e = cc
unless-refused (Some refusal) plan given reply e = cc

pub refused_reply : (limit : ℕ) (r : Rows) (found : Option ExecutionRow) (refusal : Refusal) → plan_due_for r found ≡ Err refusal → reply_to_restart limit r found ≡ Err refusal
refused_reply limit r None refusal e = cc
refused_reply limit r (Some row) refusal e = unless-refused (restart_refusal r row) (restart_plan r row) refusal _ e

-- what a restart that was accepted tells: it named this row, no refusal stood, and it made the next job execution
pub record Accepted (r : Rows) (found : Option ExecutionRow) (y : ℕ) : Type 0 where
  pub row : ExecutionRow
  pub is : found ≡ Some row
  pub none : restart_refusal r row ≡ None
  pub number : y ≡ r.last.execution + 1

accepted-by : (limit : ℕ) (r : Rows) (row : ExecutionRow) (y : ℕ) (refusal : Option Refusal) → restart_refusal r row ≡ refusal
    → unless refusal (accepted limit r.count (IsExecution (r.last.execution + 1))) ≡ Ok (IsExecution y) → Accepted r (Some row) y
accepted-by limit r row y None none e =
    let same : IsExecution y ≡ IsExecution (r.last.execution + 1) = entered-is limit r.count (IsExecution (r.last.execution + 1)) (IsExecution y) e in
    record { row = row; is = refl; none = none; number = cc }
accepted-by limit r row y (Some refusal) is e = cc

pub accepted_restart : (limit : ℕ) (r : Rows) (found : Option ExecutionRow) (y : ℕ) → reply_to_restart limit r found ≡ Ok (IsExecution y) → Accepted r found y
accepted_restart limit r None y e = cc
accepted_restart limit r (Some row) y e = accepted-by limit r row y (restart_refusal r row) refl e
