-- Restarts in a history.
use Rattle.std.specs.Prelude.{ℕ, List, reverse}
use Rattle.batch_ids.specs.Parameters.{Pair}
use Rattle.job_plans.specs.declared.plan.Plan.{Plan}
use Rattle.batch_history.specs.Legal.{grown}
use Rattle.batch_history.specs.Restarts.{plan_of}
use Rattle.batch_history.specs.Rows.{History}
use Rattle.batch_history.specs.declared.call.Call.TheVariants.{Restart}
use Rattle.batch_history.specs.declared.call.Reply.TheVariants.{Execution as IsExecution}

-- the plan of job execution x in a history
abbrev pub plan_in : History → ℕ → Plan
plan_in h x = plan_of h.catalogue (reverse h.log) x

-- a history, and one more restart, of job execution x, which made job execution y
abbrev pub restarted : History → ℕ → ℕ → ℕ → List Pair → ℕ → History
restarted h who at x parameters y = grown h record { who = who; call = Restart x parameters; at = at; reply = IsExecution y }
