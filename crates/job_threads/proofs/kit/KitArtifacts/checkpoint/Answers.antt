use Rattle.std.proofs.Common.{string_bytes}
use Rattle.job_threads.specs.Calls.{Marking}
use Rattle.job_threads.proofs.Kits.{turned}
use Rattle.job_threads.proofs.kit.KitArtifacts.checkpoint.Goals as goal

pub returns : goal.returns
returns g c = turned (λ e. string_bytes e.name) (λ e. (g.dyn-1.0.entry e.artifact.vtable).1.meaning e.artifact.value) (Marking c.checkpoint.result) _ c.args.at c.index_mut.result.now _ c.requires c.index_mut.ensures.value c.checkpoint.ensures.name c.checkpoint.ensures.told
