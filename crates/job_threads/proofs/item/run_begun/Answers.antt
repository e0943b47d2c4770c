use Rattle.job_threads.proofs.Begun.{began, begun-within, ran, unran}
use Rattle.job_threads.proofs.item.run_begun.Goals as goal

pub run-requires : goal.run-requires
run-requires g c = begun-within c.args.partition c.args.place _ _ c.requires (began c.args.partition c.args.place _ _ c.in-Ok.ensures)

pub returns-in-Err : goal.returns-in-Err
returns-in-Err g c = unran c.args.partition c.args.place c.in-Err.fault _ _ c.requires c.in-Err.ensures

pub returns-in-Ok : goal.returns-in-Ok
returns-in-Ok g c = ran c.args.partition c.args.place c.run.result _ _ _ c.requires (began c.args.partition c.args.place _ _ c.in-Ok.ensures) c.run.ensures
