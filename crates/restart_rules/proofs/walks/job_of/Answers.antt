use Rattle.std.proofs.Common.{sym, ◌∙◌, ap}
use Rattle.std.specs.Option.{option_copied}
use Rattle.batch_history.specs.Walks.{job_named}
use Rattle.restart_rules.proofs.Beginning.{placed_begins}
use Rattle.restart_rules.proofs.walks.job_of.Goals as goal

pub returns-clause-begins : goal.returns-clause-begins
returns-clause-begins c =
    placed_begins c.args.row.now.plan (job_named c.args.catalogue.now c.args.row.now.job) c.in-Some.job.now c.requires
    (ap (job_named c.args.catalogue.now) (sym c.as_str.ensures.same) ∙ (sym c.job.ensures ∙ ap option_copied c.in-Some.is))
