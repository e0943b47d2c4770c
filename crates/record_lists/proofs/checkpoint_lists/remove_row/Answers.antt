use Rattle.std.proofs.Common.{rules}
use Rattle.std.proofs.lemmas.Fn.{filter_same}
use Rattle.batch_history.specs.Checkpoints.{InstanceStep}
use Rattle.record_lists.specs.Placed.{is_elsewhere}
use Rattle.record_lists.proofs.checkpoint_lists.remove_row.Goals as goal

pub returns : goal.returns
returns c =
    let p : InstanceStep = record { instance = c.args.i; step = c.args.step.now } in
    filter_same _ (is_elsewhere p) _ (λ x b f k. search rules) _ _ c.retain.ensures.filtered
