use Rattle.catalogue_laws.proofs.Leavers.{legal_without, rows_without}
use Rattle.catalogue_laws.proofs.leaving.jobs_that_no_row_names_may_leave_a_catalogue.Goals as goal

pub returns-clause-legal : goal.returns-clause-legal
returns-clause-legal c = legal_without

pub returns-clause-rows : goal.returns-clause-rows
returns-clause-rows c = rows_without
