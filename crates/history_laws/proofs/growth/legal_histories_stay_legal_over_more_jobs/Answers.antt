use Rattle.history_laws.proofs.Wider.{legal_wider, rows_wider}
use Rattle.history_laws.proofs.growth.legal_histories_stay_legal_over_more_jobs.Goals as goal

pub returns-clause-legal : goal.returns-clause-legal
returns-clause-legal c = legal_wider

pub returns-clause-rows : goal.returns-clause-rows
returns-clause-rows c = rows_wider
