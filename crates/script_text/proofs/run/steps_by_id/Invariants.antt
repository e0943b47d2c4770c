use Rattle.std.proofs.Common.{◌≡◌, map, drop}
use Rattle.serde_json.specs.Data.{no_members}
use Rattle.serde_json.specs.View.{members_view}
use Rattle.script_text.specs.Written.{with_members}
use Rattle.script_text.specs.Runs.{step_by_id}
use Rattle.script_text.proofs.run.steps_by_id.Given as goal

abbrev pub invariant-loop-step : goal.invariant-loop-step
invariant-loop-step l =
    with_members (members_view l.by_id.entries) (map step_by_id (drop l.step-index l.steps))
    ≡ with_members no_members (map step_by_id l.steps)
