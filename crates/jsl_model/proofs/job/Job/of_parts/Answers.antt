use Rattle.std.proofs.Common.{rules, ◌∙◌, sym, subst}
use Rattle.jsl_model.specs.Faults.{IsChecked}
use Rattle.jsl_model.proofs.Judging.{found_fault, checked, same_ranked}
use Rattle.jsl_model.proofs.job.Job.of_parts.Goals as goal

-- src/job.rt:136:5
pub returns-in-Some-clause-fault : goal.returns-in-Some-clause-fault
returns-in-Some-clause-fault c _ =
    found_fault c.args.parts.now c.in_ok-id.id c.as_slice-2.result.now c.in_ok-fault.field-0 (search rules) (search rules) (search rules) (search rules) c.in_ok-fault.ensures.first
    ∙ c.in-Some.is

-- src/job.rt:132:5
pub returns-in_ok-shared-in-None-clause-faultless : goal.returns-in_ok-shared-in-None-clause-faultless
returns-in_ok-shared-in-None-clause-faultless c =
    found_fault c.args.parts.now c.in_ok-id.id c.as_slice-2.result.now c.in_ok-fault.field-0 (search rules) (search rules) (search rules) (search rules) c.in_ok-fault.ensures.first
    ∙ c.in-None.is

-- src/job.rt:141:21
pub invariant_of-result : goal.invariant_of-result
invariant_of-result c =
    let none = found_fault c.args.parts.now c.in_ok-id.id c.as_slice-2.result.now c.in_ok-fault.field-0 (search rules) (search rules) (search rules) (search rules) c.in_ok-fault.ensures.first
    ∙ c.in-None.is in
    subst (λ shared. IsChecked record { id = shared.id; restartable = shared.restartable; elements = shared.elements }) (sym c.in_ok-shared-in-None.ensures.ok)
    (checked record { id = c.in_ok-id.id; restartable = c.args.parts.now.restartable; elements = c.in_ok-elements.elements } (search rules) (same_ranked c.as_slice-2.result.now c.in_ok-elements.elements (search rules) (c.in_ok-fault.ensures.ranked c.in-None.is)))
