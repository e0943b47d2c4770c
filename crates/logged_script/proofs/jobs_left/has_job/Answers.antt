use Rattle.std.proofs.Common.{ap, sym, ◌∙◌}
use Rattle.std.specs.Option.{option_copied}
use Rattle.batch_history.specs.Walks.{job_named}
use Rattle.logged_script.proofs.JobsLeft.{none_found, same_found}
use Rattle.logged_script.proofs.jobs_left.has_job.Goals as goal

pub returns-in-Some : goal.returns-in-Some
returns-in-Some c =
    same_found (job_named c.args.catalogue.now c.args.job.now.id) c.args.job.now c.in-Some.other.now c.is_same_job.result
    (ap (job_named c.args.catalogue.now) (sym (c.as_str.ensures.same ∙ c.id.ensures.same)) ∙ (sym c.job.ensures ∙ ap option_copied c.in-Some.is)) c.is_same_job.ensures

pub returns-in-None : goal.returns-in-None
returns-in-None c =
    none_found (job_named c.args.catalogue.now c.args.job.now.id) c.args.job.now
    (ap (job_named c.args.catalogue.now) (sym (c.as_str.ensures.same ∙ c.id.ensures.same)) ∙ (sym c.job.ensures ∙ ap option_copied c.in-None.is))
