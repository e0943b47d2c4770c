use Rattle.built_in_artifacts.proofs.Counting.{opened-at}
use Rattle.built_in_artifacts.proofs.built_in_artifact.BuiltInArtifactArtifact.open.Goals as goal

pub returns-in-Some-clause-told : goal.returns-in-Some-clause-told
returns-in-Some-clause-told c = opened-at c.args.self.now.built_in _ c.args.self.now.at c.in-Some.at c.args.self.now.tape.told c.in-Some.ensures
