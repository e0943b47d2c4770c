use Rattle.std.proofs.Common.{[], false, refl}
use Rattle.logged_script.proofs.jobs_left.is_used.Goals as goal

pub returns-in-Ok : goal.returns-in-Ok
returns-in-Ok g c = (c.in-Ok.ensures.2 record { job = c.args.job; found = false } record { executions = []; works = []; checkpoints = [] } (refl, refl)).1
