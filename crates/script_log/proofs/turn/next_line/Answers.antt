use Rattle.std.proofs.Common.{subst, rules}
use Rattle.std.proofs.lemmas.Result.{err_from_is_err_and}
use Rattle.script_lines.specs.AtHand.{IsAtHand}
use Rattle.script_lines.proofs.Growing.{Growing}
use Rattle.script_log.specs.Hosts.{hosting}
use Rattle.script_log.proofs.Turning.{turning-begun, turn-line, turn-end, turn-refused, turn-stopped, turn-failed, turn-on, all-passed, asks-more}
use Rattle.script_log.proofs.turn.next_line.Goals as goal

pub reads-init : goal.reads-init
reads-init g c =
    let growing : Growing (g.R.Reader.tape c.args.source.now) (g.R.Reader.tape c.args.source.now) c.args.input.now c.args.input.now _ = search rules in
    turning-begun (hosting g.H.Host.seen g.H.Host.heard g.H.Host.may_leave g.H.Host.moment g.H.Host.left_since g.H.Host.origin g.H.Host.file_faults g.H.Host.listener_faults) _ _ _ _ _ growing c.requires.settled (g.met.H.Host.only_now c.args.log.now.host)

pub returns-in_err-line-clause-line : goal.returns-in_err-line-clause-line
returns-in_err-line-clause-line g c =
    let r = err_from_is_err_and c.from_residual.result c.from_residual.ensures.1 in
    let err = c.in_err-line.ensures.err in
    rw (r.1, r.2) (turn-refused (hosting g.H.Host.seen g.H.Host.heard g.H.Host.may_leave g.H.Host.moment g.H.Host.left_since g.H.Host.origin g.H.Host.file_faults g.H.Host.listener_faults) (g.R.Reader.tape c.args.source.now) (g.R.Reader.tape c.reads.source) c.args.input.now c.reads.input c.line_at_hand.new.self c.reads.part c.args.log.now c.reads.log c.args.output.now c.reads.output c.reads.invariant err.0 err.1)

pub returns-in-Line-clause-line : goal.returns-in-Line-clause-line
returns-in-Line-clause-line g c =
    let t = subst (λ given. IsAtHand c.reads.part c.reads.input c.line_at_hand.new.self given) c.in-Line.is c.in_ok-line.ensures.ok in
    turn-line (hosting g.H.Host.seen g.H.Host.heard g.H.Host.may_leave g.H.Host.moment g.H.Host.left_since g.H.Host.origin g.H.Host.file_faults g.H.Host.listener_faults) (g.R.Reader.tape c.args.source.now) (g.R.Reader.tape c.reads.source) c.args.input.now c.reads.input c.line_at_hand.new.self c.reads.part c.in-Line.line c.args.log.now c.reads.log c.args.output.now c.reads.output c.reads.invariant t

pub returns-in-End-clause-line : goal.returns-in-End-clause-line
returns-in-End-clause-line g c =
    let t = subst (λ given. IsAtHand c.reads.part c.reads.input c.line_at_hand.new.self given) c.in-End.is c.in_ok-line.ensures.ok in
    turn-end (hosting g.H.Host.seen g.H.Host.heard g.H.Host.may_leave g.H.Host.moment g.H.Host.left_since g.H.Host.origin g.H.Host.file_faults g.H.Host.listener_faults) (g.R.Reader.tape c.args.source.now) (g.R.Reader.tape c.reads.source) c.args.input.now c.reads.input c.line_at_hand.new.self c.reads.part c.in-End.last c.args.log.now c.reads.log c.args.output.now c.reads.output c.reads.invariant t

pub returns-in_err-commit_and_tell-clause-line : goal.returns-in_err-commit_and_tell-clause-line
returns-in_err-commit_and_tell-clause-line g c =
    let t = subst (λ given. IsAtHand c.reads.part c.reads.input c.line_at_hand.new.self given) c.in-Part.is c.in_ok-line.ensures.ok in
    let r = err_from_is_err_and c.from_residual-in_err-commit_and_tell.result c.from_residual-in_err-commit_and_tell.ensures.1 in
    let stopped = c.in_err-commit_and_tell.ensures in
    rw (r.1, r.2) (turn-stopped (hosting g.H.Host.seen g.H.Host.heard g.H.Host.may_leave g.H.Host.moment g.H.Host.left_since g.H.Host.origin g.H.Host.file_faults g.H.Host.listener_faults) (g.R.Reader.tape c.args.source.now) (g.R.Reader.tape c.reads.source) c.args.input.now c.reads.input c.line_at_hand.new.self c.reads.part c.in-Part.longer c.args.log.now c.reads.log c.commit_and_tell.new.log c.args.output.now c.reads.output c.commit_and_tell.new.output c.in_err-commit_and_tell.field-0.0 c.reads.invariant t c.commit_and_tell.ensures.any_moment c.commit_and_tell.ensures.goes_on stopped.broken stopped.cause)

pub returns-in_err-fill-clause-line : goal.returns-in_err-fill-clause-line
returns-in_err-fill-clause-line g c =
    let t = subst (λ given. IsAtHand c.reads.part c.reads.input c.line_at_hand.new.self given) c.in-Part.is c.in_ok-line.ensures.ok in
    let r = err_from_is_err_and c.from_residual-in_err-fill.result c.from_residual-in_err-fill.ensures.1 in
    let all = c.in_ok-commit_and_tell.ensures in
    let filled = c.in_err-fill.ensures in
    rw (r.1, r.2, filled.err.fault_is) (turn-failed (hosting g.H.Host.seen g.H.Host.heard g.H.Host.may_leave g.H.Host.moment g.H.Host.left_since g.H.Host.origin g.H.Host.file_faults g.H.Host.listener_faults) (g.R.Reader.tape c.args.source.now) (g.R.Reader.tape c.reads.source) (g.R.Reader.tape c.fill.new.self) c.args.input.now c.reads.input c.line_at_hand.new.self c.fill.new.input c.reads.part c.in-Part.longer c.args.log.now c.reads.log c.commit_and_tell.new.log c.args.output.now c.reads.output c.commit_and_tell.new.output _ c.reads.invariant t c.commit_and_tell.ensures.any_moment c.commit_and_tell.ensures.goes_on
    (all-passed (hosting g.H.Host.seen g.H.Host.heard g.H.Host.may_leave g.H.Host.moment g.H.Host.left_since g.H.Host.origin g.H.Host.file_faults g.H.Host.listener_faults) c.reads.log c.commit_and_tell.new.log c.reads.output c.commit_and_tell.new.output all.records all.nothing_waits all.heard all.empty) all.settled all.room filled)

pub reads-preserved : goal.reads-preserved
reads-preserved g c =
    let t = subst (λ given. IsAtHand c.reads.part c.reads.input c.line_at_hand.new.self given) c.in-Part.is c.in_ok-line.ensures.ok in
    let all = c.in_ok-commit_and_tell.ensures in
    turn-on (hosting g.H.Host.seen g.H.Host.heard g.H.Host.may_leave g.H.Host.moment g.H.Host.left_since g.H.Host.origin g.H.Host.file_faults g.H.Host.listener_faults) (g.R.Reader.tape c.args.source.now) (g.R.Reader.tape c.reads.source) (g.R.Reader.tape c.fill.new.self) c.args.input.now c.reads.input c.line_at_hand.new.self c.fill.new.input c.reads.part c.in-Part.longer c.args.log.now c.reads.log c.commit_and_tell.new.log c.args.output.now c.reads.output c.commit_and_tell.new.output c.reads.invariant t c.commit_and_tell.ensures.any_moment c.commit_and_tell.ensures.goes_on
    (all-passed (hosting g.H.Host.seen g.H.Host.heard g.H.Host.may_leave g.H.Host.moment g.H.Host.left_since g.H.Host.origin g.H.Host.file_faults g.H.Host.listener_faults) c.reads.log c.commit_and_tell.new.log c.reads.output c.commit_and_tell.new.output all.records all.nothing_waits all.heard all.empty) all.settled all.room c.in_ok-fill.ensures

pub fill-requires-clause-in_turn : goal.fill-requires-clause-in_turn
fill-requires-clause-in_turn g c =
    let t = subst (λ given. IsAtHand c.reads.part c.reads.input c.line_at_hand.new.self given) c.in-Part.is c.in_ok-line.ensures.ok in
    asks-more (hosting g.H.Host.seen g.H.Host.heard g.H.Host.may_leave g.H.Host.moment g.H.Host.left_since g.H.Host.origin g.H.Host.file_faults g.H.Host.listener_faults) (g.R.Reader.tape c.args.source.now) (g.R.Reader.tape c.reads.source) c.args.input.now c.reads.input c.line_at_hand.new.self c.reads.part c.in-Part.longer c.args.log.now c.reads.log c.commit_and_tell.new.log c.args.output.now c.reads.output g.R.Reader.may_read c.reads.invariant t c.in_ok-commit_and_tell.ensures.heard c.requires.in_turn
