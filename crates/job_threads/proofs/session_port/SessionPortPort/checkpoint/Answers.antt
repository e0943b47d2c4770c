use Rattle.std.proofs.Common.{refl}
use Rattle.job_threads.proofs.Replied.{checkpoint_reports, refused_reports, replied_stops}
use Rattle.job_threads.proofs.session_port.SessionPortPort.checkpoint.Goals as goal

pub returns-in-Ok-clause-reports : goal.returns-in-Ok-clause-reports
returns-in-Ok-clause-reports g c = checkpoint_reports _ _ _ _ _ _ _ _ _ _ refl c.onward-told.ensures c.in-Ok.ensures

pub returns-in-Ok-clause-stops : goal.returns-in-Ok-clause-stops
returns-in-Ok-clause-stops g c = (replied_stops _ _ _ _ _ _ c.checkpoint.ensures, refl, refl)

pub returns-in-Err-clause-reports : goal.returns-in-Err-clause-reports
returns-in-Err-clause-reports g c = refused_reports _ _ _ _ _ _ c.in-Err.ensures

pub returns-in-Err-clause-stops : goal.returns-in-Err-clause-stops
returns-in-Err-clause-stops g c = (replied_stops _ _ _ _ _ _ c.checkpoint.ensures, refl, refl)
