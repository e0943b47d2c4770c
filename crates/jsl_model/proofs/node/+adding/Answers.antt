use Rattle.std.proofs.Common.{arith}
use Rattle.std.proofs.lemmas.Grind.{common_steps}
use Rattle.jsl_model.proofs.node.+adding.Goals as goal

pub add_all-loop-element-preserved : goal.add_all-loop-element-preserved
add_all-loop-element-preserved t c = grind (arith, common_steps)

pub add_all-returns : goal.add_all-returns
add_all-returns t c = grind (arith, common_steps)

pub add_flows-returns : goal.add_flows-returns
add_flows-returns t c = grind (arith, common_steps)
