use Rattle.std.proofs.Common.{arith, append_assoc}
use Rattle.std.proofs.lemmas.Grind.{common_steps}
use Rattle.std.proofs.lemmas.List.Elements.{filter_map-append}
use Rattle.jsl_model.proofs.targets.add_targets.Goals as goal

pub loop-transition-preserved : goal.loop-transition-preserved
loop-transition-preserved c = grind (arith, common_steps, filter_map-append, append_assoc)
