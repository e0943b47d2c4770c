use Rattle.std.proofs.Common.{arith}
use Rattle.std.proofs.lemmas.Grind.{common_steps}
use Rattle.jsl_model.proofs.emptiness.+emptiness.Goals as goal

pub is_list_lacking-returns-then-is_empty_element : goal.is_list_lacking-returns-then-is_empty_element
is_list_lacking-returns-then-is_empty_element t c = grind (arith, common_steps)

pub is_list_lacking-loop-element-preserved : goal.is_list_lacking-loop-element-preserved
is_list_lacking-loop-element-preserved t c = grind (arith, common_steps)

pub is_list_lacking-returns : goal.is_list_lacking-returns
is_list_lacking-returns t c = grind (arith, common_steps)

pub is_split_lacking-returns-then-is_empty_flow : goal.is_split_lacking-returns-then-is_empty_flow
is_split_lacking-returns-then-is_empty_flow t c = grind (arith, common_steps)

pub is_split_lacking-loop-flow-preserved : goal.is_split_lacking-loop-flow-preserved
is_split_lacking-loop-flow-preserved t c = grind (arith, common_steps)

pub is_split_lacking-returns : goal.is_split_lacking-returns
is_split_lacking-returns t c = grind (arith, common_steps)

pub is_list_lacking-loop-element-init : goal.is_list_lacking-loop-element-init
is_list_lacking-loop-element-init t c = grind (arith, common_steps)

pub is_split_lacking-loop-flow-init : goal.is_split_lacking-loop-flow-init
is_split_lacking-loop-flow-init t c = grind (arith, common_steps)
