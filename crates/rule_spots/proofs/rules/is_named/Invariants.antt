use Rattle.std.proofs.Common.{◌≡◌, drop}
use Rattle.serde_json.specs.View.{items_view}
use Rattle.rule_spots.specs.Rules.{is_named}
use Rattle.rule_spots.proofs.rules.is_named.Given as goal

-- an element of the list has the id exactly if one of those that are left has it
abbrev pub invariant-loop-value : goal.invariant-loop-value
invariant-loop-value l = is_named l.text (items_view (drop l.value-index l.list)) ≡ is_named l.text (items_view l.list)
