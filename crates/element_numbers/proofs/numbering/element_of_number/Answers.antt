use Rattle.serde_json.specs.View.{items_view}
use Rattle.element_numbers.proofs.Faults.{fault_found}
use Rattle.element_numbers.proofs.numbering.element_of_number.Goals as goal

pub returns-clause-fault : goal.returns-clause-fault
returns-clause-fault c =
    λ job fails. fault_found c.in_ok-found.found (items_view c.args.list.now) c.args.number job c.in_ok-found.ensures.element c.in_ok-found.ensures.few fails
