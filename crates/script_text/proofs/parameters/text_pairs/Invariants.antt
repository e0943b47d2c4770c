use Rattle.std.proofs.Common.{◌≡◌, ◌++◌}
use Rattle.serde_json.specs.View.{members_view}
use Rattle.batch_ids.specs.Parameters.{pairs_of}
use Rattle.script_text.specs.Parameters.{text_pairs}
use Rattle.script_text.proofs.parameters.text_pairs.Given as goal

abbrev pub invariant-loop-name : goal.invariant-loop-name
invariant-loop-name l =
    pairs_of l.pairs.items ++ text_pairs (members_view l.name-iterator) ≡ text_pairs (members_view l.members.entries)
