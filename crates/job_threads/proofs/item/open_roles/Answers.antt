use Rattle.std.proofs.Common.{ap, length, arith, None}
use Rattle.job_threads.proofs.Turns.{put-size}
use Rattle.job_threads.proofs.Opened.{open-both, open-first}
use Rattle.job_threads.proofs.item.open_roles.Goals as goal

pub open-requires-in-Ok : goal.open-requires-in-Ok
open-requires-in-Ok g c = let t = c.in-Ok.ensures in omega (arith, c.requires.writer, ap length t.2, put-size c.args.roles.reader t.0 (g.K.Artifacts.seen c.args.kit.now))

pub returns-in-Err : goal.returns-in-Err
returns-in-Err g c = open-first c.args.roles None c.in-Err.fault _ _ c.requires.reader c.in-Err.ensures

pub returns-in-Ok : goal.returns-in-Ok
returns-in-Ok g c = open-both c.args.roles _ c.open-in-Ok.result _ _ _ c.requires.reader c.requires.writer c.in-Ok.ensures c.open-in-Ok.ensures
