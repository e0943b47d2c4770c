use Rattle.job_plans.proofs.Ordered.{goes-on-checked, names-there-checked}
use Rattle.job_plans.proofs.law.a_list_goes_on_from_element_to_element.Goals as goal

pub returns : goal.returns
returns c = record { value = goes-on-checked; targets = names-there-checked }
