use Rattle.std.proofs.Common.{rules}
use Rattle.catalogue_checks.proofs.Judging.{is_good}
use Rattle.catalogue_checks.proofs.check.tell_good.Goals as goal

pub returns : goal.returns
returns c =
    is_good c.args.line.now c.args.catalogue.now c.in_ok-checked.checked c.requires.short c.requires.read (search rules) c.in_ok-checked.ensures.faultless
