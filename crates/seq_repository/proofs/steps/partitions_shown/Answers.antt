use Rattle.std.proofs.Common.{map, ap, ◌∙◌}
use Rattle.seq_repository.proofs.Metering.{within_same_step}
use Rattle.seq_repository.proofs.steps.partitions_shown.Goals as goal

pub shown_partitions-requires : goal.shown_partitions-requires
shown_partitions-requires c =
    within_same_step _ _ _ c.args.row.now c.requires (ap (map (λ row. row.now)) c.as_slice-3.ensures.value ∙ c.in_ok-items.ensures)
