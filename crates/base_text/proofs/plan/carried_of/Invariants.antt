use Rattle.std.proofs.Common.{◌≡◌, drop}
use Rattle.serde_json.specs.View.{items_view}
use Rattle.jsl_json.proofs.Lists.{ahead}
use Rattle.base_text.specs.Plans.{each_of, carried_in}
use Rattle.base_text.proofs.plan.carried_of.Given as goal

-- the items that were read, ahead of those that are left, are all of them
abbrev pub invariant-loop-value : goal.invariant-loop-value
invariant-loop-value l = ahead l.carried.items (each_of carried_in (items_view (drop l.value-index l.list))) ≡ each_of carried_in (items_view l.list)
