use Rattle.std.proofs.Common.{arith}
use Rattle.jsl_model.proofs.Layers.{step_given, flow_given, split_given, decision_given, step_long, flow_body_long, split_long, decision_long, element_given, element_long_of, flow_long_of}
use Rattle.jsl_model.proofs.building.+building.Goals as goal

pub build_body-returns-in_err-build_step-in-Step-clause-long : goal.build_body-returns-in_err-build_step-in-Step-clause-long
build_body-returns-in_err-build_step-in-Step-clause-long t c = grind (arith, step_long)

pub build_body-returns-in_ok-build_step-in-Step-clause-same : goal.build_body-returns-in_ok-build_step-in-Step-clause-same
build_body-returns-in_ok-build_step-in-Step-clause-same t c = grind (arith, step_given)

pub build_body-returns-in_ok-build_step-in-Step-clause-short : goal.build_body-returns-in_ok-build_step-in-Step-clause-short
build_body-returns-in_ok-build_step-in-Step-clause-short t c = grind (arith, step_long)

pub build_body-returns-in_err-build_elements-in-Flow-clause-long : goal.build_body-returns-in_err-build_elements-in-Flow-clause-long
build_body-returns-in_err-build_elements-in-Flow-clause-long t c = grind (arith, flow_body_long)

pub build_body-returns-in_ok-build_elements-in-Flow-clause-same : goal.build_body-returns-in_ok-build_elements-in-Flow-clause-same
build_body-returns-in_ok-build_elements-in-Flow-clause-same t c = grind (arith, flow_given)

pub build_body-returns-in_ok-build_elements-in-Flow-clause-short : goal.build_body-returns-in_ok-build_elements-in-Flow-clause-short
build_body-returns-in_ok-build_elements-in-Flow-clause-short t c = grind (arith, flow_body_long)

pub build_body-returns-in_err-build_flows-in-Split-clause-long : goal.build_body-returns-in_err-build_flows-in-Split-clause-long
build_body-returns-in_err-build_flows-in-Split-clause-long t c = grind (arith, split_long)

pub build_body-returns-in_ok-build_flows-in-Split-clause-same : goal.build_body-returns-in_ok-build_flows-in-Split-clause-same
build_body-returns-in_ok-build_flows-in-Split-clause-same t c = grind (arith, split_given)

pub build_body-returns-in_ok-build_flows-in-Split-clause-short : goal.build_body-returns-in_ok-build_flows-in-Split-clause-short
build_body-returns-in_ok-build_flows-in-Split-clause-short t c = grind (arith, split_long)

pub build_body-returns-in_err-build_text-in-Decision-clause-long : goal.build_body-returns-in_err-build_text-in-Decision-clause-long
build_body-returns-in_err-build_text-in-Decision-clause-long t c = grind (arith, decision_long)

pub build_body-returns-in_ok-build_text-in-Decision-clause-same : goal.build_body-returns-in_ok-build_text-in-Decision-clause-same
build_body-returns-in_ok-build_text-in-Decision-clause-same t c = grind (arith, decision_given)

pub build_body-returns-in_ok-build_text-in-Decision-clause-short : goal.build_body-returns-in_ok-build_text-in-Decision-clause-short
build_body-returns-in_ok-build_text-in-Decision-clause-short t c = grind (arith, decision_long)

pub build_element-returns-in_err-id-clause-long : goal.build_element-returns-in_err-id-clause-long
build_element-returns-in_err-id-clause-long t c = grind (arith, element_long_of)

pub build_element-returns-in_err-next-clause-long : goal.build_element-returns-in_err-next-clause-long
build_element-returns-in_err-next-clause-long t c = grind (arith, element_long_of)

pub build_element-returns-in_err-transitions-clause-long : goal.build_element-returns-in_err-transitions-clause-long
build_element-returns-in_err-transitions-clause-long t c = grind (arith, element_long_of)

pub build_element-returns-in_err-body-clause-long : goal.build_element-returns-in_err-body-clause-long
build_element-returns-in_err-body-clause-long t c = grind (arith, element_long_of)

pub build_element-returns-clause-same : goal.build_element-returns-clause-same
build_element-returns-clause-same t c = grind (arith, element_given)

pub build_element-returns-clause-short : goal.build_element-returns-clause-short
build_element-returns-clause-short t c = grind (arith, element_long_of)

pub build_flow-returns-in_err-id-clause-long : goal.build_flow-returns-in_err-id-clause-long
build_flow-returns-in_err-id-clause-long t c = grind (arith, flow_long_of)

pub build_flow-returns-in_err-elements-clause-long : goal.build_flow-returns-in_err-elements-clause-long
build_flow-returns-in_err-elements-clause-long t c = grind (arith, flow_long_of)

pub build_flow-returns-clause-short : goal.build_flow-returns-clause-short
build_flow-returns-clause-short t c = grind (arith, flow_long_of)
