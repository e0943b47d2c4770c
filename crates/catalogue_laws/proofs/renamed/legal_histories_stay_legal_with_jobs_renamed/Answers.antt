use Rattle.catalogue_laws.proofs.OtherNames.{legal_renamed, rows_are_renamed}
use Rattle.catalogue_laws.proofs.renamed.legal_histories_stay_legal_with_jobs_renamed.Goals as goal

pub returns-clause-legal : goal.returns-clause-legal
returns-clause-legal c = legal_renamed

pub returns-clause-rows : goal.returns-clause-rows
returns-clause-rows c = rows_are_renamed
