use Rattle.std.proofs.Common.{◌≡◌, [], vec_len}
use Rattle.std.specs.List.{All}
use Rattle.batch_operator.proofs.states.states_of_nothing.Given as goal

abbrev pub invariant-loop-number : goal.invariant-loop-number
invariant-loop-number g l = record {
  empty : All (λ s. g.S.Absorb.stands s l.fn.catalogue []) l.states.items;
  count : vec_len l.states ≡ l.number;
}
