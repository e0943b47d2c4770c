use Rattle.std.proofs.Common.{map, ap, ◌∙◌}
use Rattle.seq_repository.proofs.Metering.{within_works_of}
use Rattle.seq_repository.proofs.steps.step_executions.Goals as goal

pub each_of-requires : goal.each_of-requires
each_of-requires c =
    within_works_of _ c.args.owner.now.execution c.args.rows.now.works _ c.requires (ap (map (λ row. row.now)) c.as_slice.ensures.value ∙ c.in_ok-works.ensures)
