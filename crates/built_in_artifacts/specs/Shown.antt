-- The meaning that a built-in artifact shows to a worker.
use Rattle.built_in_artifacts.specs.declared.built_in_artifact.BuiltInArtifact.{BuiltInArtifact}
use Rattle.job_threads.specs.Meaning.{Meaning}
use Rattle.built_in_artifacts.specs.Means.{means}

abbrev pub shown : BuiltInArtifact → Meaning
shown a = means a.built_in a.at a.tape.told
