use Rattle.std.proofs.Common.{subst, ap, ◌∙◌}
use Rattle.std.specs.Result.{OnOk}
use Rattle.serde_json.specs.Data.{object}
use Rattle.script_text.specs.Telling.{Adds, told_counts}
use Rattle.script_text.proofs.Rising.{metrics_rise}
use Rattle.script_text.proofs.telling.tell_metrics.Goals as goal

pub returns : goal.returns
returns c =
    subst (λ due. OnOk c.tell_counts.result (Adds due c.args.out.now c.tell_counts.new.out))
    (ap (λ counts. object (told_counts counts)) c.rising_counts.ensures ∙ metrics_rise c.args.metrics.now)
    c.tell_counts.ensures
