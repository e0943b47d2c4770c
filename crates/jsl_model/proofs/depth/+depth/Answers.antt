use Rattle.std.proofs.Common.{arith}
use Rattle.std.proofs.lemmas.Grind.{common_steps}
use Rattle.jsl_model.proofs.Levels.{greatest_more, element_levels, flow_levels}
use Rattle.jsl_model.proofs.depth.+depth.Goals as goal

pub are_flows_deeper-returns-then-most-eq0 : goal.are_flows_deeper-returns-then-most-eq0
are_flows_deeper-returns-then-most-eq0 t c = grind (arith, common_steps, greatest_more, flow_levels)

pub are_flows_deeper-loop-flow-preserved : goal.are_flows_deeper-loop-flow-preserved
are_flows_deeper-loop-flow-preserved t c = grind (arith, common_steps, greatest_more, flow_levels)

pub is_deeper-returns-then-most-eq0 : goal.is_deeper-returns-then-most-eq0
is_deeper-returns-then-most-eq0 t c = grind (arith, common_steps, greatest_more, element_levels)

pub is_deeper-loop-element-preserved : goal.is_deeper-loop-element-preserved
is_deeper-loop-element-preserved t c = grind (arith, common_steps, greatest_more, element_levels)
