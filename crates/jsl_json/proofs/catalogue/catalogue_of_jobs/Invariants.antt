use Rattle.std.proofs.Common.{◌≡◌, [], drop}
use Rattle.serde_json.specs.View.{items_view}
use Rattle.jsl_json.specs.Catalogues.{with_jobs}
use Rattle.jsl_json.proofs.catalogue.catalogue_of_jobs.Given as goal

-- the jobs that are left, after those that were added, give what all give
abbrev pub invariant-loop-value : goal.invariant-loop-value
invariant-loop-value l = with_jobs l.catalogue (items_view (drop l.value-index l.jobs)) ≡ with_jobs [] (items_view l.jobs)
