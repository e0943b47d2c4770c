use Rattle.std.proofs.Common.{◌≡◌, ◌++◌}
use Rattle.serde_json.specs.View.{members_view}
use Rattle.batch_ids.specs.Parameters.{pairs_of}
use Rattle.script_text.specs.Parameters.{are_texts, text_pairs}
use Rattle.base_text.proofs.parameters.text_pairs.Given as goal

-- the members that are left are texts exactly if all are; the pairs that were read, ahead of those that are
-- left, are all of them
abbrev pub invariant-loop-name : goal.invariant-loop-name
invariant-loop-name l = record {
  texts : are_texts (members_view l.name-iterator) ≡ are_texts (members_view l.members.entries);
  pairs : pairs_of l.pairs.items ++ text_pairs (members_view l.name-iterator) ≡ text_pairs (members_view l.members.entries);
}
