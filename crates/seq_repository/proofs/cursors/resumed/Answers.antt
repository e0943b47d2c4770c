use Rattle.std.proofs.Common.{◌≡◌, true, Some, sym, ◌∙◌, ap, subst}
use Rattle.std.specs.Option.{option_copied}
use Rattle.batch_history.specs.Walks.{job_named}
use Rattle.job_plans.specs.declared.plan.Plan.{Plan}
use Rattle.job_plans.specs.Cursors.{begins_in, resumed}
use Rattle.restart_rules.proofs.Beginning.{if_ok_then, placed_begins}
use Rattle.seq_repository.proofs.Followed.{follows_resumed}
use Rattle.seq_repository.specs.Following.{Follows}
use Rattle.seq_repository.proofs.cursors.resumed.Goals as goal

pub resume-requires : goal.resume-requires
resume-requires c =
    record {
      from =
          subst (λ (plan : Plan). begins_in plan c.in-Some.job.now ≡ true) (sym c.get.ensures)
          (placed_begins c.args.row.now.plan (job_named c.args.catalogue.now c.args.row.now.job) c.in-Some.job.now c.requires
          (ap (job_named c.args.catalogue.now) (sym c.as_str.ensures.same) ∙ (sym c.job.ensures ∙ ap option_copied c.in-Some.is)));
    }

pub returns : goal.returns
returns c = λ works is.
    let named : job_named c.args.catalogue.now c.args.row.now.job ≡ Some c.in-Some.job.now =
    ap (job_named c.args.catalogue.now) (sym c.as_str.ensures.same) ∙ (sym c.job.ensures ∙ ap option_copied c.in-Some.is) in
    if_ok_then c.resume.result (resumed c.in-Some.job.now c.get.result.now c.args.known.now) (Follows c.args.catalogue.now works c.args.row.now) c.resume.ensures
    (λ cursor e. subst (Follows c.args.catalogue.now works c.args.row.now) (sym (e ∙ ap (λ (plan : Plan). resumed c.in-Some.job.now plan c.args.known.now) c.get.ensures)) (follows_resumed c.args.catalogue.now works c.args.row.now c.in-Some.job.now c.args.known.now named is))
