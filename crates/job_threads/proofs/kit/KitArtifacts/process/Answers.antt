use Rattle.std.proofs.Common.{string_bytes}
use Rattle.job_threads.specs.Calls.{Processing}
use Rattle.job_threads.proofs.Kits.{turned}
use Rattle.job_threads.proofs.kit.KitArtifacts.process.Goals as goal

pub returns : goal.returns
returns g c = turned (λ e. string_bytes e.name) (λ e. (g.dyn-1.0.entry e.artifact.vtable).1.meaning e.artifact.value) (Processing c.args.item.now c.process.result) _ c.args.at c.index_mut.result.now _ c.requires c.index_mut.ensures.value c.process.ensures.name c.process.ensures.told
