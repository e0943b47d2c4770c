use Rattle.std.proofs.Common.{rules}
use Rattle.jsl_model.proofs.Judging.{ranked_lists}
use Rattle.jsl_model.proofs.faults.fault_of_targets.Goals as goal

pub returns-clause-ranked : goal.returns-clause-ranked
returns-clause-ranked c _ =
    ranked_lists c.as_slice-2.result.now c.args.elements.now c.in_ok-has_some_loop.field-0 (search rules) c.in_ok-has_some_loop.ensures.ranked c.if-branch-2.false
