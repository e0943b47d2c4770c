use Rattle.std.proofs.Common.{◌≡◌, ◌++◌, drop}
use Rattle.std.specs.List.{flat_map}
use Rattle.records.specs.Indexes.{numbers_under}
use Rattle.records.proofs.number_lists.numbers_through.Given as goal

abbrev pub invariant-loop-middle : goal.invariant-loop-middle
invariant-loop-middle l =
    l.numbers.items ++ flat_map (numbers_under l.second) (drop l.middle-index l.middle-items) ≡ flat_map (numbers_under l.second) l.middle-items
