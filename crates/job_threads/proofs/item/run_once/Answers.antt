use Rattle.std.proofs.Common.{◌∙◌, sym, ap, List, ℕ}
use Rattle.job_threads.specs.Meaning.{place_of}
use Rattle.job_threads.proofs.Ended.{once-failed, once-done}
use Rattle.job_threads.proofs.item.run_once.Goals as goal

pub returns-in-Ok-finish-clause-once : goal.returns-in-Ok-finish-clause-once
returns-in-Ok-finish-clause-once g c = once-failed c.args.partition _ c.in-Some.place c.args.work c.args.at c.in-Err-run_begun.field-0 c.zero-in-Err-run_begun.result _ _ _ _ (sym (c.find.ensures.place ∙ ap (λ (n : List ℕ). place_of n (g.K.Artifacts.seen c.args.kit.now)) c.as_str.ensures.same) ∙ c.in-Some.is) c.in-Err-run_begun.ensures c.zero-in-Err-run_begun.ensures c.in-Ok-finish.ensures.reports

pub returns-in-Ok-finish-2-clause-once : goal.returns-in-Ok-finish-2-clause-once
returns-in-Ok-finish-2-clause-once g c = once-done c.args.partition _ c.in-Some.place c.args.work c.args.at c.in-Ok-run_begun.exit c.zero-in-Ok-run_begun.result _ _ _ _ (sym (c.find.ensures.place ∙ ap (λ (n : List ℕ). place_of n (g.K.Artifacts.seen c.args.kit.now)) c.as_str.ensures.same) ∙ c.in-Some.is) c.in-Ok-run_begun.ensures c.zero-in-Ok-run_begun.ensures c.in-Ok-finish-2.ensures.reports
