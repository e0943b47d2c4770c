use Rattle.std.proofs.Common.{◌≡◌, ◌++◌, map, drop}
use Rattle.std.specs.List.{flat_map}
use Rattle.jsl_model.specs.Jobs.{JobTree}
use Rattle.jsl_model.specs.Trees.{artifacts}
use Rattle.jsl_model.proofs.catalogue.Catalogue.artifacts.Given as goal

abbrev pub invariant-loop-job : goal.invariant-loop-job
invariant-loop-job l =
    map (λ name. name.now) l.names.items ++ flat_map (λ (job : JobTree). artifacts job.elements) (drop l.job-index l.self) ≡ flat_map (λ (job : JobTree). artifacts job.elements) l.self
