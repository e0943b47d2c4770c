use Rattle.std.proofs.Common.{◌≡◌, ◌++◌, map, drop}
use Rattle.json.specs.Tree.{items_tokens}
use Rattle.serde_json.specs.View.{items_of}
use Rattle.serde_json.specs.Written.{items_outline}
use Rattle.script_text.proofs.telling.tell_items.Given as goal

abbrev pub invariant-loop-item : goal.invariant-loop-item
invariant-loop-item g l =
    (l.out.tokens ++ items_tokens (items_outline (items_of (map g.T.Told.told (drop l.item-index l.items))))
    ≡ l.initial.out.tokens ++ items_tokens (items_outline (items_of (map g.T.Told.told l.items))))
    × (l.out.before ≡ l.initial.out.before)
