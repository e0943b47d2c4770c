use Rattle.std.proofs.Common.{string_bytes, map}
use Rattle.job_threads.specs.Calls.{Writing}
use Rattle.job_threads.proofs.Kits.{turned}
use Rattle.job_threads.proofs.kit.KitArtifacts.write.Goals as goal

pub returns : goal.returns
returns g c = turned (λ e. string_bytes e.name) (λ e. (g.dyn-1.0.entry e.artifact.vtable).1.meaning e.artifact.value) (Writing (map string_bytes c.args.items.now) c.write.result) _ c.args.at c.index_mut.result.now _ c.requires c.index_mut.ensures.value c.write.ensures.name c.write.ensures.told
