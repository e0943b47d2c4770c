use Rattle.std.proofs.Common.{◌≡◌, drop}
use Rattle.serde_json.specs.View.{items_view}
use Rattle.jsl_json.proofs.Lists.{ahead}
use Rattle.base_text.specs.Plans.{each_of, step_in}
use Rattle.base_text.proofs.plan.steps_of.Given as goal

-- the items that were read, ahead of those that are left, are all of them
abbrev pub invariant-loop-value : goal.invariant-loop-value
invariant-loop-value l = ahead l.steps.items (each_of step_in (items_view (drop l.value-index l.list))) ≡ each_of step_in (items_view l.list)
