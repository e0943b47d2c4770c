use Rattle.std.proofs.lemmas.Slice.Eq.{slice_eq-Decides}
use Rattle.base_text.proofs.Decisions.{pair_decides}
use Rattle.base_text.proofs.sameness.are_same_carried.Goals as goal

pub returns : goal.returns
returns c = slice_eq-Decides pair_decides _ _ _ c.eq.ensures
