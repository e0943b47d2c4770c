use Rattle.std.proofs.Common.{sym, ap}
use Rattle.logged_script.specs.Histories.{jobs_read}
use Rattle.logged_script.proofs.JobsLeft.{left_at}
use Rattle.logged_script.proofs.to_compact.job_left.Goals as goal

pub returns-in-Ok : goal.returns-in-Ok
returns-in-Ok g c = left_at _ _ _ _ _ _ (ap g.J.RowRepository.rows c.repository.ensures) (sym (ap jobs_read c.in-Ok.ensures.read)) c.first_job_left.ensures
