use Rattle.std.proofs.Common.{sym, ap, ◌∙◌}
use Rattle.std.specs.Str.{bytes_eq}
use Rattle.batch_ids.specs.Statuses.{outcome_name, all_outcomes}
use Rattle.batch_ids.proofs.Found.{find_past}
use Rattle.batch_ids.proofs.status.WorkOutcomeFromStr.from_str.Goals as goal

pub loop-outcome-preserved : goal.loop-outcome-preserved
loop-outcome-preserved c =
    find_past (λ outcome. bytes_eq (outcome_name outcome) c.args.text.now) all_outcomes c.loop-outcome.outcome-index _ c.loop-outcome-test.true
    (ap (λ name. bytes_eq name c.args.text.now) (sym c.name.ensures.name) ∙ (sym c.eq.ensures ∙ c.if-eq.false))
    ∙ c.loop-outcome.invariant
