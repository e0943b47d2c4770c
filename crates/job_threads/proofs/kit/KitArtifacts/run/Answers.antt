use Rattle.std.proofs.Common.{string_bytes}
use Rattle.job_threads.specs.Calls.{Running}
use Rattle.job_threads.proofs.Kits.{turned}
use Rattle.job_threads.proofs.kit.KitArtifacts.run.Goals as goal

pub returns : goal.returns
returns g c = turned (λ e. string_bytes e.name) (λ e. (g.dyn-1.0.entry e.artifact.vtable).1.meaning e.artifact.value) (Running c.run.result) _ c.args.at c.index_mut.result.now _ c.requires c.index_mut.ensures.value c.run.ensures.name c.run.ensures.told
