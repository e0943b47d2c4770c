use Rattle.std.proofs.Common.{◌∙◌, sym}
use Rattle.std.proofs.lemmas.Result.{err_from_is_err_and}
use Rattle.script_log.specs.Hosts.{hosting}
use Rattle.script_log.proofs.Ending.{covered-begun}
use Rattle.script_log.proofs.Whole.{ran-nothing, ran-broken, ran-stopped, ran-whole, leaves-whole}
use Rattle.script_log.proofs.run.answer_lines.Goals as goal

pub returns-in_err-output-clause-any_moment : goal.returns-in_err-output-clause-any_moment
returns-in_err-output-clause-any_moment g c =
    let d = hosting g.H.Host.seen g.H.Host.heard g.H.Host.may_leave g.H.Host.moment g.H.Host.left_since g.H.Host.origin g.H.Host.file_faults g.H.Host.listener_faults in
    covered-begun d g.E.Engine.keeps g.E.Engine.reply (g.R.Reader.tape c.args.source.now) c.args.input.now c.args.log.now _ c.requires.settled (g.met.H.Host.only_now c.args.log.now.host)

pub returns-in_err-output-clause-ran : goal.returns-in_err-output-clause-ran
returns-in_err-output-clause-ran g c =
    let d = hosting g.H.Host.seen g.H.Host.heard g.H.Host.may_leave g.H.Host.moment g.H.Host.left_since g.H.Host.origin g.H.Host.file_faults g.H.Host.listener_faults in
    let r = err_from_is_err_and c.from_residual.result c.from_residual.ensures.1 in
    rw (r.1, r.2) (ran-nothing d g.E.Engine.keeps g.E.Engine.reply (g.E.Engine.stands c.args.engine.now) (g.R.Reader.tape c.args.source.now) c.args.input.now c.args.log.now c.requires.settled c.requires.nothing_waits (g.met.H.Host.only_now c.args.log.now.host))

pub returns-then-has_broken-clause-any_moment : goal.returns-then-has_broken-clause-any_moment
returns-then-has_broken-clause-any_moment g c = c.answer_all-outcome.ensures.crashes.any_moment

pub returns-then-has_broken-clause-ran : goal.returns-then-has_broken-clause-ran
returns-then-has_broken-clause-ran g c =
    let d = hosting g.H.Host.seen g.H.Host.heard g.H.Host.may_leave g.H.Host.moment g.H.Host.left_since g.H.Host.origin g.H.Host.file_faults g.H.Host.listener_faults in
    ran-broken d g.E.Engine.keeps g.E.Engine.reply _ _ _ _ _ _ c.answer_all-outcome.ensures (sym c.has_broken.ensures ∙ c.if-has_broken.true)

pub returns-in_err-commit_and_tell-clause-any_moment : goal.returns-in_err-commit_and_tell-clause-any_moment
returns-in_err-commit_and_tell-clause-any_moment g c =
    let d = hosting g.H.Host.seen g.H.Host.heard g.H.Host.may_leave g.H.Host.moment g.H.Host.left_since g.H.Host.origin g.H.Host.file_faults g.H.Host.listener_faults in
    leaves-whole d g.E.Engine.keeps g.E.Engine.reply _ _ _ c.answer_all-outcome.new.log c.commit_and_tell.new.log _ _ c.answer_all-outcome.ensures (sym c.has_broken.ensures ∙ c.if-has_broken.false) c.commit_and_tell.ensures.any_moment

pub returns-in_err-commit_and_tell-clause-ran : goal.returns-in_err-commit_and_tell-clause-ran
returns-in_err-commit_and_tell-clause-ran g c =
    let d = hosting g.H.Host.seen g.H.Host.heard g.H.Host.may_leave g.H.Host.moment g.H.Host.left_since g.H.Host.origin g.H.Host.file_faults g.H.Host.listener_faults in
    let r = err_from_is_err_and c.from_residual-in_err-commit_and_tell.result c.from_residual-in_err-commit_and_tell.ensures.1 in
    let stopped = c.in_err-commit_and_tell.ensures in
    rw (r.1, r.2) (ran-stopped d g.E.Engine.keeps g.E.Engine.reply _ _ _ c.answer_all-outcome.new.log c.commit_and_tell.new.log _ _ _ c.answer_all-outcome.ensures (sym c.has_broken.ensures ∙ c.if-has_broken.false) c.commit_and_tell.ensures.goes_on stopped.broken stopped.cause)

pub returns-clause-any_moment : goal.returns-clause-any_moment
returns-clause-any_moment g c =
    let d = hosting g.H.Host.seen g.H.Host.heard g.H.Host.may_leave g.H.Host.moment g.H.Host.left_since g.H.Host.origin g.H.Host.file_faults g.H.Host.listener_faults in
    leaves-whole d g.E.Engine.keeps g.E.Engine.reply _ _ _ c.answer_all-outcome.new.log c.commit_and_tell.new.log _ _ c.answer_all-outcome.ensures (sym c.has_broken.ensures ∙ c.if-has_broken.false) c.commit_and_tell.ensures.any_moment

pub returns-clause-ran : goal.returns-clause-ran
returns-clause-ran g c =
    let d = hosting g.H.Host.seen g.H.Host.heard g.H.Host.may_leave g.H.Host.moment g.H.Host.left_since g.H.Host.origin g.H.Host.file_faults g.H.Host.listener_faults in
    let all = c.in_ok-commit_and_tell.ensures in
    ran-whole d g.E.Engine.keeps g.E.Engine.reply _ _ _ c.answer_all-outcome.new.log c.commit_and_tell.new.log _ _ c.answer_all-outcome.ensures (sym c.has_broken.ensures ∙ c.if-has_broken.false) c.commit_and_tell.ensures.goes_on all.records all.heard all.settled all.nothing_waits
