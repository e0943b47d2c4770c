use Rattle.read_copies.proofs.Kept.{copied_new}
use Rattle.read_copies.proofs.copied.Copied.new.Goals as goal

pub invariant_of-result : goal.invariant_of-result
invariant_of-result g c = copied_new _ _ _ c.copy_seat.ensures.copy c.requires.empty
