use Rattle.std.proofs.Common.{◌≡◌, drop}
use Rattle.batch_ids.specs.Parameters.{IsRising, pairs_of, parameters_of, with_all}
use Rattle.script_text.specs.LentParameters.{lent_pairs}
use Rattle.script_text.proofs.parameters.lent_text_pairs.Given as goal

abbrev pub invariant-loop-member : goal.invariant-loop-member
invariant-loop-member l = record {
  rising : IsRising (pairs_of l.pairs.items);
  due : with_all (pairs_of l.pairs.items) (lent_pairs (drop l.member-index l.members)) ≡ parameters_of (lent_pairs l.members);
}
