use Rattle.std.proofs.Common.{◌∙◌, sym}
use Rattle.job_walk.proofs.Fresh.{fresh-ok}
use Rattle.job_walk.proofs.first_value.value_at_first.Goals as goal

pub returns-then-says_nothing : goal.returns-then-says_nothing
returns-then-says_nothing c =
    fresh-ok c.args.job.now c.args.plan.now c.args.known.now (c.says_nothing.ensures c.if-says_nothing.true) (sym c.is_empty.ensures ∙ c.if-is_empty.true)
    c.elements.result.now c.elements.ensures.same c.walk_value.result c.walk_value.ensures
