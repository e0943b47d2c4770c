use Rattle.std.proofs.Common.{string_bytes}
use Rattle.job_threads.specs.Calls.{Beginning}
use Rattle.job_threads.proofs.Kits.{turned}
use Rattle.job_threads.proofs.kit.KitArtifacts.begin.Goals as goal

pub returns : goal.returns
returns g c = turned (λ e. string_bytes e.name) (λ e. (g.dyn-1.0.entry e.artifact.vtable).1.meaning e.artifact.value) (Beginning c.args.partition c.begin.result) _ c.args.at c.index_mut.result.now _ c.requires c.index_mut.ensures.value c.begin.ensures.name c.begin.ensures.told
