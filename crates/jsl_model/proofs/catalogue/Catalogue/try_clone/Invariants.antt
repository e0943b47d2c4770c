use Rattle.std.proofs.Common.{◌≡◌, take}
use Rattle.jsl_model.proofs.catalogue.Catalogue.try_clone.Given as goal

abbrev pub invariant-loop-job : goal.invariant-loop-job
invariant-loop-job l = l.jobs.items ≡ take l.job-index l.job-items
