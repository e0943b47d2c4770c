use Rattle.std.proofs.Common.{◌≡◌, ◌+◌, [], vec_len}
use Rattle.std.specs.List.{All}
use Rattle.read_copies.proofs.copies.Copies.new.Given as goal

abbrev pub invariant-loop-number : goal.invariant-loop-number
invariant-loop-number g l = record {
  empty : All (λ s. g.S.Absorb.stands s g.N.Site.place.catalogue []) l.states.items;
  alone : l.desk ≡ l.fn.desk;
  left : vec_len l.states + l.number ≡ vec_len l.fn.states;
  made : vec_len l.copies ≡ l.number;
}
