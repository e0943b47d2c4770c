use Rattle.logged_script.proofs.JobsLeft.{left_of}
use Rattle.logged_script.proofs.jobs_left.first_job_left.Goals as goal

pub returns : goal.returns
returns g c =
    left_of (g.J.RowRepository.rows c.args.repository.now) c.args.kept.now c.jobs.result.now c.args.given.now c.first_left.result c.requires.catalogue c.jobs.ensures c.requires.named c.first_left.ensures
