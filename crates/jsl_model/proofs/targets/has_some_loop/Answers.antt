use Rattle.std.proofs.Common.{◌∙◌, sym}
use Rattle.jsl_model.specs.Targets.{has_loop}
use Rattle.jsl_model.proofs.Places.{any-next, ranks-next, ranks-all}
use Rattle.jsl_model.proofs.targets.has_some_loop.Goals as goal

pub loop-list-preserved : goal.loop-list-preserved
loop-list-preserved c = (
  any-next has_loop c.args.lists.now c.loop-list.list-index c.list-item.result c.loop-list-test.true c.list-item.is
      (sym c.in_ok-has_loop.ensures.same ∙ c.if-branch.false) ∙ c.loop-list.invariant.0,
  ranks-next c.args.lists.now c.loop-list.list-index c.list-item.result c.loop-list-test.true c.list-item.is
      c.loop-list.invariant.1 (c.in_ok-has_loop.ensures.ranked c.if-branch.false),
)

pub returns-clause-ranked : goal.returns-clause-ranked
returns-clause-ranked c = λ none. ranks-all c.args.lists.now c.loop-list.list-index c.loop-list-test.false c.loop-list.invariant.1
