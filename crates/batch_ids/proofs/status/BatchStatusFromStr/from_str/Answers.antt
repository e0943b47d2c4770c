use Rattle.std.proofs.Common.{sym, ap, ◌∙◌}
use Rattle.std.specs.Str.{bytes_eq}
use Rattle.batch_ids.specs.Statuses.{status_name, all_statuses}
use Rattle.batch_ids.proofs.Found.{find_past}
use Rattle.batch_ids.proofs.status.BatchStatusFromStr.from_str.Goals as goal

pub loop-status-preserved : goal.loop-status-preserved
loop-status-preserved c =
    find_past (λ status. bytes_eq (status_name status) c.args.text.now) all_statuses c.loop-status.status-index _ c.loop-status-test.true
    (ap (λ name. bytes_eq name c.args.text.now) (sym c.name.ensures.name) ∙ (sym c.eq.ensures ∙ c.if-eq.false))
    ∙ c.loop-status.invariant
