use Rattle.batch_commands.proofs.Readying.{file-ready, ready-by, unmade-by}
use Rattle.batch_commands.proofs.logged.make_ready.Goals as goal

pub returns-in-Ok-write_ready-clause-ready : goal.returns-in-Ok-write_ready-clause-ready
returns-in-Ok-write_ready-clause-ready g c =
    ready-by _ _ _ _ _ _ _ _ _ _ _ _ c.in-Ok-prepare_log.ensures.begun c.in-Ok-prepare_log.ensures.cut c.in-Ok-prepare_log.ensures.reopens
    c.in-Ok.ensures.read c.in-Ok-write_ready.ensures.ready c.write_ready.ensures.any_moment

pub returns-in-Ok-write_ready-clause-file : goal.returns-in-Ok-write_ready-clause-file
returns-in-Ok-write_ready-clause-file g c =
    file-ready _ _ _ _ _ _ _ c.requires.opening
    (ready-by _ _ _ _ _ _ _ _ _ _ _ _ c.in-Ok-prepare_log.ensures.begun c.in-Ok-prepare_log.ensures.cut c.in-Ok-prepare_log.ensures.reopens
    c.in-Ok.ensures.read c.in-Ok-write_ready.ensures.ready c.write_ready.ensures.any_moment)

pub returns-in-Err-write_ready-clause-unready : goal.returns-in-Err-write_ready-clause-unready
returns-in-Err-write_ready-clause-unready g c =
    unmade-by _ _ _ _ _ _ _ _ _ _ _ _ c.in-Ok-prepare_log.ensures.begun c.in-Ok-prepare_log.ensures.reopens c.write_ready.ensures.any_moment c.from-in-Err-write_ready.ensures
