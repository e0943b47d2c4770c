use Rattle.std.proofs.Common.{◌≡◌, ◌≤◌, drop, length}
use Rattle.std.specs.List.{list_any}
use Rattle.batch_ids.specs.Parameters.{with_all, parameters_of, pairs_of, is_long}
use Rattle.batch_ids.proofs.parameters.SortedParameters.new.Given as goal

abbrev pub invariant-loop-pair : goal.invariant-loop-pair
invariant-loop-pair l = record {
  few : length l.made ≤ 64;
  same : with_all l.made (pairs_of (drop l.pair-index l.pair-items)) ≡ parameters_of (pairs_of l.pair-items);
  long : list_any is_long (pairs_of (drop l.pair-index l.pair-items)) ≡ list_any is_long (pairs_of l.pair-items);
}
