use Rattle.std.proofs.Common.{length, ◌∙◌, ap}
use Rattle.std.proofs.lemmas.List.{length-map}
use Rattle.records.proofs.records.Records.count_of_step.Goals as goal

pub returns : goal.returns
returns c i own = ap length (c.under.ensures ∙ own c.args.step.now) ∙ length-map _ _
