use Rattle.std.proofs.Common.{length, ◌∙◌, ap}
use Rattle.std.proofs.lemmas.List.{length-map}
use Rattle.batch_history.specs.Answers.{instances_of_job}
use Rattle.records.specs.Maps.{Maps}
use Rattle.records.proofs.records.Records.instance_count.Goals as goal

pub returns : goal.returns
returns c =
    ap length (c.under.ensures ∙ c.self.invariant.0.instances_by_name c.args.name.now)
    ∙ (length-map (instances_of_job c.args.name.now c.self.inside.instances.rows) _ ∙ ap (λ (m : Maps). length (instances_of_job c.args.name.now m.instances)) c.self.view_is)
