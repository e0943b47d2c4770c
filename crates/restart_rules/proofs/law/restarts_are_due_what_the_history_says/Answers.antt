use Rattle.restart_rules.proofs.Histories.{all_placed, each_placed, refused_alike, accepted_alike, plan_given}
use Rattle.restart_rules.proofs.law.restarts_are_due_what_the_history_says.Goals as goal

pub returns-clause-placed : goal.returns-clause-placed
returns-clause-placed c = all_placed

pub returns-clause-each : goal.returns-clause-each
returns-clause-each c = each_placed

pub returns-clause-refused : goal.returns-clause-refused
returns-clause-refused c = refused_alike

pub returns-clause-accepted : goal.returns-clause-accepted
returns-clause-accepted c = accepted_alike

pub returns-clause-plan : goal.returns-clause-plan
returns-clause-plan c = plan_given
