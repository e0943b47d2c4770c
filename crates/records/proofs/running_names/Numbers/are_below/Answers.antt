use Rattle.std.proofs.Common.{subst}
use Rattle.records.specs.Maps.{AreBelow}
use Rattle.records.proofs.Sets.{all_below, less_is}
use Rattle.records.proofs.running_names.Numbers.are_below.Goals as goal

pub returns-in-Some : goal.returns-in-Some
returns-in-Some c =
    less_is c.in-Some.last.now c.args.number (AreBelow c.args.number c.args.self.now) (λ lt.
    subst (AreBelow c.args.number) c.self.view_is
    (all_below c.in-Some.last.now c.args.number _ c.in-Some.ensures.all_up_to lt))
