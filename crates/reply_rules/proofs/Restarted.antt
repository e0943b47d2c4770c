-- What a restart is answered, by what refuses it; and what is due.
use Rattle.std.proofs.Common.{◌≡◌, ℕ, ◌+◌, Option, None, Some, Result, Ok, Err, sym, ap}
use Rattle.batch_ids.specs.declared.refusal.Refusal.{Refusal}
use Rattle.batch_history.specs.Due.{IsDue}
use Rattle.batch_history.specs.Replies.{accepted, reply_to_restart, unless}
use Rattle.batch_history.specs.Rows.{Rows}
use Rattle.batch_history.specs.declared.call.Reply.TheVariants.{Execution as IsExecution}
use Rattle.batch_history.specs.declared.rows.ExecutionRow.{ExecutionRow}
use Rattle.restart_rules.specs.Restarting.{refusal_for}

-- a result is due where it is the one that is
pub is_due : {R : Type 0} (result due : Result R Refusal) → result ≡ due → IsDue result due
is_due (Ok reply) due same = sym same
is_due (Err refusal) due same = λ _. sym same

pub refused_restart : (limit : ℕ) (r : Rows) (found : Option ExecutionRow) (refusal : Refusal) → refusal_for r found ≡ Some refusal
    → reply_to_restart limit r found ≡ Err refusal
refused_restart limit r None refusal is = cc
refused_restart limit r (Some row) refusal is = ap (λ o. unless o (accepted limit r.count (IsExecution (r.last.execution + 1)))) is

pub granted_restart : (limit : ℕ) (r : Rows) (found : Option ExecutionRow) → refusal_for r found ≡ None
    → reply_to_restart limit r found ≡ accepted limit r.count (IsExecution (r.last.execution + 1))
granted_restart limit r None is = cc
granted_restart limit r (Some row) is = ap (λ o. unless o (accepted limit r.count (IsExecution (r.last.execution + 1)))) is
