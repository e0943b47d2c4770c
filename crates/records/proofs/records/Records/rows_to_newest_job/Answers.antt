use Rattle.std.proofs.Common.{◌≡◌, ℕ, ◌≤◌, List, IfSome, filter, slice_get, ◌∙◌, ap, subst}
use Rattle.jsl_model.specs.Names.{distinct}
use Rattle.batch_history.specs.Answers.{instances_of_job}
use Rattle.batch_history.specs.declared.rows.JobInstance.{JobInstance}
use Rattle.records.specs.Left.{job_names, is_first_of_job}
use Rattle.records.specs.Maps.{Maps, instance_numbers}
use Rattle.records.specs.Slots.{rows_left}
use Rattle.records.proofs.Naming.{firsts_distinct, none_first}
use Rattle.records.proofs.records.Records.rows_to_newest_job.Goals as goal

pub returns : goal.returns
returns c =
    let rows : List JobInstance = c.self.inside.instances.rows in
    let each : (q : List ℕ) → IfSome (slice_get (instance_numbers (instances_of_job q rows)) 0) (λ n. n ≤ c.newest.result) =
    λ q. subst (λ (ns : List ℕ). IfSome (slice_get ns 0) (λ n. n ≤ c.newest.result)) (c.self.invariant.0.instances_by_name q) (c.newest.ensures.bound q) in
    subst (λ (m : Maps). job_names (filter (is_first_of_job m.instances) (rows_left c.rows_through.result)) ≡ distinct (job_names m.instances)) c.self.view_is
    (ap job_names (c.rows_through.ensures (is_first_of_job rows) (none_first rows c.newest.result each))
    ∙ firsts_distinct rows c.self.invariant.0.keyed.instances)
