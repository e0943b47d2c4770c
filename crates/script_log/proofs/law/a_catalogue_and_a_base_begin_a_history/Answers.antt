use Rattle.script_log.proofs.Staying.{begun-history, begun-place}
use Rattle.script_log.proofs.law.a_catalogue_and_a_base_begin_a_history.Goals as goal

pub returns-clause-history : goal.returns-clause-history
returns-clause-history c = begun-history

pub returns-clause-in_place : goal.returns-clause-in_place
returns-clause-in_place c = begun-place
