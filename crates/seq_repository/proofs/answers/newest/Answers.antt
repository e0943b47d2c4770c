use Rattle.std.proofs.Common.{◌≡◌, ◌-◌, ℕ, List, length, take, drop, reverse, sym, ap, ◌∙◌}
use Rattle.batch_history.specs.Answers.{instances_of_job}
use Rattle.batch_history.specs.declared.rows.JobInstance.{JobInstance}
use Rattle.seq_repository.proofs.Pages.{on_slice, page_turned}
use Rattle.seq_repository.proofs.Readers.{all_read}
use Rattle.seq_repository.proofs.answers.newest.Goals as goal

pub returns : goal.returns
returns c =
    let all : List JobInstance = instances_of_job c.args.job.now c.args.rows.now.instances in
    let to : c.saturating_sub-to.result ≡ length all - c.args.start =
    c.saturating_sub-to.ensures
    ∙ ap (λ (n : ℕ). n - c.args.start) (c.instance_count.ensures ∙ ap (λ (q : List ℕ). length (instances_of_job q c.args.rows.now.instances)) c.as_str.ensures.same) in
    let slice : take (c.saturating_sub-to.result - c.saturating_sub-from.result) (drop c.saturating_sub-from.result all)
    ≡ take (length all - c.args.start - (length all - c.args.start - c.args.count)) (drop (length all - c.args.start - c.args.count) all) =
    ap (λ (k : ℕ). take (c.saturating_sub-to.result - k) (drop k all)) c.saturating_sub-from.ensures
    ∙ ap (λ (k : ℕ). take (k - (k - c.args.count)) (drop (k - c.args.count) all)) to in
    c.reverse.ensures.items
    ∙ (ap reverse (all_read c.loop-row.found.items _ _ c.in-None.ensures.steps.0 c.loop-row.invariant ∙ (slice ∙ sym (on_slice c.args.start c.args.count all)))
    ∙ page_turned c.args.start c.args.count all)
