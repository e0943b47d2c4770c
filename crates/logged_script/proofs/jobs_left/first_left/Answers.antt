use Rattle.std.proofs.Common.{arith, subst}
use Rattle.std.proofs.lemmas.List.{take_all}
use Rattle.batch_history.specs.Lists.{Each}
use Rattle.logged_script.specs.Compactions.{MayLeave}
use Rattle.logged_script.proofs.JobsLeft.{first_at, one_more}
use Rattle.logged_script.proofs.jobs_left.first_left.Goals as goal

pub loop-number-preserved : goal.loop-number-preserved
loop-number-preserved g c =
    one_more (g.J.RowRepository.rows c.args.repository.now) c.args.kept.now c.args.given.now c.loop-number.number c.index-kept-number.result (omega arith) c.index-kept-number.is
    c.loop-number.invariant (c.in_ok-may.ensures.may c.if-not-may.false)

pub returns-then-not-may : goal.returns-then-not-may
returns-then-not-may g c =
    first_at (g.J.RowRepository.rows c.args.repository.now) c.args.kept.now c.args.given.now c.loop-number.number c.index-kept-number.result (omega arith) c.index-kept-number.is
    c.loop-number.invariant (c.in_ok-may.ensures.differs c.if-not-may.true) (c.in_ok-may.ensures.used c.if-not-may.true)

pub returns : goal.returns
returns g c =
    subst (Each (MayLeave (g.J.RowRepository.rows c.args.repository.now) c.args.given.now)) (take_all c.loop-number.number c.args.kept.now (omega arith)) c.loop-number.invariant
