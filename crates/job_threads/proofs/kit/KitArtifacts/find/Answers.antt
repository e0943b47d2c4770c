use Rattle.std.proofs.Common.{◌∙◌, sym, ap, map, string_bytes}
use Rattle.job_threads.specs.Meaning.{place_from}
use Rattle.job_threads.proofs.Kits.{names-map}
use Rattle.job_threads.proofs.kit.KitArtifacts.find.Goals as goal

pub returns-clause-place : goal.returns-clause-place
returns-clause-place g c =
    c.find_name.ensures.place
    ∙ (ap (λ (es : _). place_from 0 c.args.name.now (map (λ e. string_bytes e.name) es)) c.as_slice.ensures.value
    ∙ ap (place_from 0 c.args.name.now) (sym (names-map (λ e. string_bytes e.name) (λ e. (g.dyn-1.0.entry e.artifact.vtable).1.meaning e.artifact.value) c.args.self.now.all.items)))
