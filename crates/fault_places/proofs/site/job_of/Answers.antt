use Rattle.std.proofs.Common.{◌∙◌, ◌<◌, ◌≤◌, length, Some, option_and_then, ap, arith}
use Rattle.serde_json.specs.Find.{get_item}
use Rattle.serde_json.specs.View.{view}
use Rattle.serde_json.specs.declared.value.Value.{Value}
use Rattle.serde_json.proofs.Views.{get_item_within, get_item_past}
use Rattle.fault_places.proofs.site.job_of.Goals as goal

pub returns-then-job-jobs : goal.returns-then-job-jobs
returns-then-job-jobs c =
    let jobs = c.in_ok-jobs.jobs.now in
    let past : length jobs ≤ c.args.job = omega arith in
    get_item_past jobs c.args.job past ∙ ap (option_and_then (get_item c.args.job)) c.in_ok-jobs.ensures

pub returns : goal.returns
returns c =
    let jobs = c.in_ok-jobs.jobs.now in
    let within : c.args.job < length jobs = omega arith in
    ap (λ (v : Value). Some (view v)) c.index-jobs-job.is ∙ get_item_within jobs c.args.job c.index-jobs-job.result within ∙ ap (option_and_then (get_item c.args.job)) c.in_ok-jobs.ensures
