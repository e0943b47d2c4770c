use Rattle.std.proofs.Common.{slice_get}
use Rattle.record_lists.proofs.Firsts.{IsLeastBound}
use Rattle.record_lists.proofs.name_lists.NameLists.newest.Given as goal

abbrev pub invariant-loop-name : goal.invariant-loop-name
invariant-loop-name l = IsLeastBound (λ p. slice_get p.1.now 0) l.newest l.yielded
