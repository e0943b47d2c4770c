use Rattle.std.proofs.Common.{refl}
use Rattle.job_threads.proofs.Replied.{other_reports}
use Rattle.job_threads.proofs.session_port.SessionPortPort.claim.Goals as goal

pub returns-in-Ok-clause-reports : goal.returns-in-Ok-clause-reports
returns-in-Ok-clause-reports g c = other_reports _ _ _ _ _ _ (λ reply. refl) c.claim.ensures

pub returns-in-Err-clause-reports : goal.returns-in-Err-clause-reports
returns-in-Err-clause-reports g c = other_reports _ _ _ _ _ _ (λ reply. refl) c.claim.ensures
