use Rattle.catalogue_checks.proofs.Judging.{is_faulty}
use Rattle.catalogue_checks.proofs.check.tell_faulty.Goals as goal

pub returns : goal.returns
returns c =
    is_faulty c.args.line.now c.args.fault c.in_ok-place.place c.in_ok-checked.checked c.requires.short c.requires.fault c.in_ok-place.ensures c.in_ok-checked.ensures.text c.in_ok-checked.ensures.fault
