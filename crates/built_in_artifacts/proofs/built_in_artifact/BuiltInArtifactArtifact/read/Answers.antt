use Rattle.built_in_artifacts.proofs.Counting.{read-on}
use Rattle.built_in_artifacts.proofs.built_in_artifact.BuiltInArtifactArtifact.read.Goals as goal

pub returns-in-Ok-Some-clause-told : goal.returns-in-Ok-Some-clause-told
returns-in-Ok-Some-clause-told c = read-on c.args.self.now.built_in c.args.self.now.at c.args.self.now.tape.told c.in-Ok-Some.item (rw c.in-Ok-Some.field-0-is at c.in-Ok-Some.ensures.answer)
