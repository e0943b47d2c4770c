use Rattle.std.proofs.lemmas.Slice.Eq.{slice_eq-Decides}
use Rattle.catalogue_growth.proofs.Decisions.{transition_decides}
use Rattle.catalogue_growth.proofs.sameness.are_same_transitions.Goals as goal

pub returns : goal.returns
returns c = slice_eq-Decides transition_decides _ _ _ c.eq.ensures
