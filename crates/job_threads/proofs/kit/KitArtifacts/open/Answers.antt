use Rattle.std.proofs.Common.{string_bytes, option_map}
use Rattle.job_threads.specs.Calls.{Opening}
use Rattle.job_threads.proofs.Kits.{turned}
use Rattle.job_threads.proofs.kit.KitArtifacts.open.Goals as goal

pub returns : goal.returns
returns g c = turned (λ e. string_bytes e.name) (λ e. (g.dyn-1.0.entry e.artifact.vtable).1.meaning e.artifact.value) (Opening (option_map (λ s. s.now) c.args.checkpoint) c.open.result) _ c.args.at c.index_mut.result.now _ c.requires c.index_mut.ensures.value c.open.ensures.name c.open.ensures.told
