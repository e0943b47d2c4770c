use Rattle.std.proofs.lemmas.Slice.Eq.{slice_eq-Decides}
use Rattle.base_text.proofs.Decisions.{key_decides}
use Rattle.base_text.proofs.sameness.are_same_keys.Goals as goal

pub returns : goal.returns
returns c = slice_eq-Decides key_decides _ _ _ c.eq.ensures
