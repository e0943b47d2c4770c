use Rattle.std.proofs.Common.{◌∙◌, ap}
use Rattle.records.specs.Indexes.{without_number}
use Rattle.records.proofs.Sets.{removed}
use Rattle.records.proofs.running_names.Numbers.leave_out.Goals as goal

pub returns : goal.returns
returns c = c.remove.ensures.keys ∙ (removed c.args.number _ ∙ ap (without_number c.args.number) c.self.view_is)
