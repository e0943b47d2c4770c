-- How a list goes on after an element's outcome.
use Rattle.std.specs.Prelude.{ℕ, Option, Some, None, unwrap_or, List}
use Rattle.batch_ids.specs.Statuses.{status_name}
use Rattle.batch_ids.specs.declared.status.BatchStatus.TheVariants.{Completed, Failed, Stopped}
use Rattle.batch_ids.specs.declared.status.WorkOutcome.{WorkOutcome}
use Rattle.batch_ids.specs.declared.status.WorkOutcome.TheVariants.{Completed as CameCompleted, Failed as CameFailed, Stopped as CameStopped}
use Rattle.jsl_model.specs.declared.element.Then.{Then}
use Rattle.jsl_model.specs.declared.element.Then.TheVariants.{Next, End, Fail, Stop}
use Rattle.jsl_model.specs.declared.element.Transition.{Transition}
use Rattle.walk_rules.specs.declared.continuation.Continuation.{Continuation}
use Rattle.walk_rules.specs.declared.continuation.Continuation.TheVariants.{AtElement, WithValue}
use Rattle.walk_rules.specs.declared.facts.Value.TheVariants.{Done, Ended}

-- how a list goes on by a transition element
abbrev pub continuation_by : Then → Continuation
continuation_by (Next to) = AtElement to
continuation_by (End exit) = WithValue (Ended Completed (unwrap_or exit (status_name Completed)) None)
continuation_by (Fail exit) = WithValue (Ended Failed (unwrap_or exit (status_name Failed)) None)
continuation_by (Stop exit point) = WithValue (Ended Stopped (unwrap_or exit (status_name Stopped)) point)

-- how a list goes on after an outcome: by the transition element if one matches the exit status, and else by
-- `next`
abbrev pub continuation_of : Option (List ℕ) → Option Transition → WorkOutcome → List ℕ → Continuation
continuation_of next transition CameStopped exit = WithValue (Ended Stopped (status_name Stopped) None)
continuation_of next (Some transition) CameCompleted exit = continuation_by transition.then
continuation_of next (Some transition) CameFailed exit = continuation_by transition.then
continuation_of next None CameFailed exit = WithValue (Ended Failed (status_name Failed) None)
continuation_of (Some to) None CameCompleted exit = AtElement to
continuation_of None None CameCompleted exit = WithValue (Done exit)
