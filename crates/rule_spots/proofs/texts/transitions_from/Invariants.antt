use Rattle.std.proofs.Common.{◌≡◌, drop}
use Rattle.serde_json.specs.View.{items_view}
use Rattle.rule_spots.specs.Rules.{breaks}
use Rattle.rule_spots.specs.Texts.{transitions_from}
use Rattle.rule_spots.proofs.texts.transitions_from.Given as goal

-- the transition elements that are left have the first text of all
abbrev pub invariant-loop-index : goal.invariant-loop-index
invariant-loop-index l = transitions_from (breaks l.rule) l.index (items_view (drop l.index l.list)) ≡ transitions_from (breaks l.rule) 0 (items_view l.list)
