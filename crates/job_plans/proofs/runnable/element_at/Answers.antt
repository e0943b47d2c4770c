use Rattle.job_plans.proofs.Near.{list-run, list-once-in}
use Rattle.job_plans.proofs.runnable.element_at.Goals as goal

pub returns-then-eq : goal.returns-then-eq
returns-then-eq c = λ key once.
    let place = c.args.place in
    let element = c.index-list-place-then-eq.result in
    let is = c.index-list-place-then-eq.is in (
      list-once-in key.element c.args.list.now place element c.if-place-list.true is once,
      λ run found. list-run c.args.list.now key place element run c.if-place-list.true is once found,
    )
