use Rattle.std.proofs.Common.{◌∙◌, ◌++◌, Option, Ok, sym, subst}
use Rattle.std.proofs.lemmas.Result.{err_from_is_err_and}
use Rattle.script_lines.specs.declared.line.Line.{Line}
use Rattle.durable_log.specs.Logs.{records_of}
use Rattle.script_log.specs.Hosts.{hosting, GoesOn}
use Rattle.script_log.specs.Reading.{reading}
use Rattle.script_log.specs.InTurn.{LineInTurn}
use Rattle.script_log.specs.Passing.{standing}
use Rattle.script_log.proofs.Failing.{goes-none, goes-two, none-short}
use Rattle.script_log.proofs.Going.{going-passed, asks-next}
use Rattle.script_log.proofs.Ending.{ended-before, going-begun, line-failed, lines-done, no-memory, put-failed, answered-on}
use Rattle.script_log.proofs.run.answer_all.Goals as goal

pub returns-then-has_ended : goal.returns-then-has_ended
returns-then-has_ended g c =
    let d = hosting g.H.Host.seen g.H.Host.heard g.H.Host.may_leave g.H.Host.moment g.H.Host.left_since g.H.Host.origin g.H.Host.file_faults g.H.Host.listener_faults in
    let ended = sym c.has_ended.ensures.value ∙ c.if-has_ended.true in
    ended-before d g.E.Engine.keeps g.E.Engine.reply (g.R.Reader.tape c.args.source.now) c.args.input.now c.args.log.now
    c.args.output.now (g.E.Engine.stands c.args.engine.now) ended (c.has_ended.ensures.nothing_left ended) c.requires.settled c.requires.nothing_waits c.requires.empty c.requires.stands (g.met.H.Host.only_now c.args.log.now.host)

pub loop-line-init : goal.loop-line-init
loop-line-init g c =
    let d = hosting g.H.Host.seen g.H.Host.heard g.H.Host.may_leave g.H.Host.moment g.H.Host.left_since g.H.Host.origin g.H.Host.file_faults g.H.Host.listener_faults in
    let running = sym c.has_ended.ensures.value ∙ c.if-has_ended.false in
    record {
      settled = c.requires.settled;
      going = going-begun d g.E.Engine.keeps g.E.Engine.reply (g.R.Reader.tape c.args.source.now) c.args.input.now c.args.log.now
          c.args.output.now running c.requires.settled c.requires.nothing_waits c.requires.empty (g.met.H.Host.only_now c.args.log.now.host);
      stands = c.requires.stands;
      room = none-short d c.args.log.now c.requires.settled c.requires.nothing_waits;
      goes_on = goes-none d c.args.log.now c.requires.settled (g.met.H.Host.only_now c.args.log.now.host);
    }

pub next_line-requires-clause-in_turn : goal.next_line-requires-clause-in_turn
next_line-requires-clause-in_turn g c =
    let log = c.args.log.now in
    asks-next g.E.Engine.keeps g.E.Engine.reply (records_of (g.H.Host.seen log.host)) (g.H.Host.heard log.host) g.H.Host.moment g.H.Host.left_since log.host (g.R.Reader.tape c.args.source.now) c.args.input.now
    (g.R.Reader.tape c.loop-line.source) c.loop-line.input c.loop-line.log.host (standing g.H.Host.seen g.H.Host.heard c.loop-line.log c.loop-line.output) g.R.Reader.may_read c.loop-line.invariant.going c.requires.in_turn

pub returns-in_err-line : goal.returns-in_err-line
returns-in_err-line g c =
    let d = hosting g.H.Host.seen g.H.Host.heard g.H.Host.may_leave g.H.Host.moment g.H.Host.left_since g.H.Host.origin g.H.Host.file_faults g.H.Host.listener_faults in
    let r = err_from_is_err_and c.from_residual.result c.from_residual.ensures.1 in
    let I = c.loop-line.invariant in
    rw (r.1, r.2) (line-failed d g.E.Engine.keeps g.E.Engine.reply (g.R.Reader.tape c.args.source.now) c.args.input.now c.args.log.now
    (g.R.Reader.tape c.loop-line.source) (g.R.Reader.tape c.next_line.new.source) c.loop-line.input c.next_line.new.input c.loop-line.log c.next_line.new.log c.loop-line.output c.next_line.new.output (g.E.Engine.stands c.loop-line.engine) c.in_err-line.field-0.0 I.going c.in_err-line.ensures.line I.goes_on)

pub answer_line-requires-clause-room : goal.answer_line-requires-clause-room
answer_line-requires-clause-room g c =
    let d = hosting g.H.Host.seen g.H.Host.heard g.H.Host.may_leave g.H.Host.moment g.H.Host.left_since g.H.Host.origin g.H.Host.file_faults g.H.Host.listener_faults in
    let T = subst (λ (o : Option Line). LineInTurn d (reading (g.R.Reader.tape c.loop-line.source) (g.R.Reader.tape c.next_line.new.source) c.loop-line.input c.next_line.new.input) c.loop-line.log c.next_line.new.log c.loop-line.output c.next_line.new.output (Ok o)) c.in-Some.is c.in_ok-line.ensures.line in
    T.room c.loop-line.invariant.room

pub returns-in_err-text : goal.returns-in_err-text
returns-in_err-text g c =
    let d = hosting g.H.Host.seen g.H.Host.heard g.H.Host.may_leave g.H.Host.moment g.H.Host.left_since g.H.Host.origin g.H.Host.file_faults g.H.Host.listener_faults in
    let r = err_from_is_err_and c.from_residual-in_err-text.result c.from_residual-in_err-text.ensures.1 in
    let I = c.loop-line.invariant in
    let T = subst (λ (o : Option Line). LineInTurn d (reading (g.R.Reader.tape c.loop-line.source) (g.R.Reader.tape c.next_line.new.source) c.loop-line.input c.next_line.new.input) c.loop-line.log c.next_line.new.log c.loop-line.output c.next_line.new.output (Ok o)) c.in-Some.is c.in_ok-line.ensures.line in
    rw (r.1, r.2) (no-memory d g.E.Engine.keeps g.E.Engine.reply (g.R.Reader.tape c.args.source.now) c.args.input.now c.args.log.now
    (g.R.Reader.tape c.loop-line.source) (g.R.Reader.tape c.next_line.new.source) c.loop-line.input c.next_line.new.input c.loop-line.log c.next_line.new.log c.answer_line.new.log c.loop-line.output c.next_line.new.output (g.E.Engine.stands c.answer_line.new.engine) c.in-Some.line I.going T c.answer_line.ensures.host c.in_err-text.ensures.err c.answer_line.ensures.settled I.goes_on)

pub returns-in_err-put_reply : goal.returns-in_err-put_reply
returns-in_err-put_reply g c =
    let d = hosting g.H.Host.seen g.H.Host.heard g.H.Host.may_leave g.H.Host.moment g.H.Host.left_since g.H.Host.origin g.H.Host.file_faults g.H.Host.listener_faults in
    let r = err_from_is_err_and c.from_residual-in_err-put_reply.result c.from_residual-in_err-put_reply.ensures.1 in
    let I = c.loop-line.invariant in
    let T = subst (λ (o : Option Line). LineInTurn d (reading (g.R.Reader.tape c.loop-line.source) (g.R.Reader.tape c.next_line.new.source) c.loop-line.input c.next_line.new.input) c.loop-line.log c.next_line.new.log c.loop-line.output c.next_line.new.output (Ok o)) c.in-Some.is c.in_ok-line.ensures.line in
    let A = answered-on d g.E.Engine.keeps g.E.Engine.reply (g.R.Reader.tape c.args.source.now) c.args.input.now c.args.log.now
    (g.R.Reader.tape c.loop-line.source) (g.R.Reader.tape c.next_line.new.source) c.loop-line.input c.next_line.new.input c.loop-line.log c.next_line.new.log c.answer_line.new.log c.loop-line.output c.next_line.new.output c.deref.result.now c.in_ok-text.text.items (g.E.Engine.stands c.loop-line.engine) (g.E.Engine.stands c.answer_line.new.engine) c.in-Some.line I.going I.stands T c.answer_line.ensures.host c.in_ok-text.ensures.due c.deref.ensures.value in
    let later = subst (λ h. GoesOn d c.args.log.now.host h) (sym c.answer_line.ensures.host) (goes-two d c.args.log.now.host c.loop-line.log.host c.next_line.new.log.host I.goes_on T.goes_on) in
    let failed = c.in_err-put_reply.ensures in
    rw (r.1, r.2) (put-failed d g.E.Engine.keeps g.E.Engine.reply (g.R.Reader.tape c.args.source.now) c.args.input.now c.args.log.now
    (g.R.Reader.tape c.next_line.new.source) c.next_line.new.input c.answer_line.new.log c.put_reply.new.log (c.next_line.new.output ++ c.deref.result.now) c.put_reply.new.output (g.E.Engine.stands c.answer_line.new.engine) c.in_err-put_reply.field-0.0 A.0 c.put_reply.ensures.any_moment failed.broken later c.put_reply.ensures.goes_on failed.cause)

pub loop-line-preserved : goal.loop-line-preserved
loop-line-preserved g c =
    let d = hosting g.H.Host.seen g.H.Host.heard g.H.Host.may_leave g.H.Host.moment g.H.Host.left_since g.H.Host.origin g.H.Host.file_faults g.H.Host.listener_faults in
    let I = c.loop-line.invariant in
    let T = subst (λ (o : Option Line). LineInTurn d (reading (g.R.Reader.tape c.loop-line.source) (g.R.Reader.tape c.next_line.new.source) c.loop-line.input c.next_line.new.input) c.loop-line.log c.next_line.new.log c.loop-line.output c.next_line.new.output (Ok o)) c.in-Some.is c.in_ok-line.ensures.line in
    let A = answered-on d g.E.Engine.keeps g.E.Engine.reply (g.R.Reader.tape c.args.source.now) c.args.input.now c.args.log.now
    (g.R.Reader.tape c.loop-line.source) (g.R.Reader.tape c.next_line.new.source) c.loop-line.input c.next_line.new.input c.loop-line.log c.next_line.new.log c.answer_line.new.log c.loop-line.output c.next_line.new.output c.deref.result.now c.in_ok-text.text.items (g.E.Engine.stands c.loop-line.engine) (g.E.Engine.stands c.answer_line.new.engine) c.in-Some.line I.going I.stands T c.answer_line.ensures.host c.in_ok-text.ensures.due c.deref.ensures.value in
    let later = subst (λ h. GoesOn d c.args.log.now.host h) (sym c.answer_line.ensures.host) (goes-two d c.args.log.now.host c.loop-line.log.host c.next_line.new.log.host I.goes_on T.goes_on) in
    record {
      settled = c.in_ok-put_reply.ensures.settled;
      going = going-passed g.E.Engine.keeps g.E.Engine.reply (records_of (g.H.Host.seen c.args.log.now.host)) (g.H.Host.heard c.args.log.now.host) g.H.Host.moment g.H.Host.left_since c.args.log.now.host
          (g.R.Reader.tape c.args.source.now) c.args.input.now _ _ _ _ _ _ A.0 c.in_ok-put_reply.ensures.passed_on c.put_reply.ensures.any_moment;
      stands = A.1;
      room = c.in_ok-put_reply.ensures.room;
      goes_on = goes-two d c.args.log.now.host c.answer_line.new.log.host c.put_reply.new.log.host later c.put_reply.ensures.goes_on;
    }

pub loop-line-preserved-in_ok-put_reply : goal.loop-line-preserved-in_ok-put_reply
loop-line-preserved-in_ok-put_reply g c =
    let d = hosting g.H.Host.seen g.H.Host.heard g.H.Host.may_leave g.H.Host.moment g.H.Host.left_since g.H.Host.origin g.H.Host.file_faults g.H.Host.listener_faults in
    let I = c.loop-line.invariant in
    let T = subst (λ (o : Option Line). LineInTurn d (reading (g.R.Reader.tape c.loop-line.source) (g.R.Reader.tape c.next_line.new.source) c.loop-line.input c.next_line.new.input) c.loop-line.log c.next_line.new.log c.loop-line.output c.next_line.new.output (Ok o)) c.in-Some.is c.in_ok-line.ensures.line in
    let A = answered-on d g.E.Engine.keeps g.E.Engine.reply (g.R.Reader.tape c.args.source.now) c.args.input.now c.args.log.now
    (g.R.Reader.tape c.loop-line.source) (g.R.Reader.tape c.next_line.new.source) c.loop-line.input c.next_line.new.input c.loop-line.log c.next_line.new.log c.answer_line.new.log c.loop-line.output c.next_line.new.output c.deref.result.now c.in_ok-text.text.items (g.E.Engine.stands c.loop-line.engine) (g.E.Engine.stands c.answer_line.new.engine) c.in-Some.line I.going I.stands T c.answer_line.ensures.host c.in_ok-text.ensures.due c.deref.ensures.value in
    let later = subst (λ h. GoesOn d c.args.log.now.host h) (sym c.answer_line.ensures.host) (goes-two d c.args.log.now.host c.loop-line.log.host c.next_line.new.log.host I.goes_on T.goes_on) in
    record {
      settled = c.in_ok-put_reply.ensures.settled;
      going = going-passed g.E.Engine.keeps g.E.Engine.reply (records_of (g.H.Host.seen c.args.log.now.host)) (g.H.Host.heard c.args.log.now.host) g.H.Host.moment g.H.Host.left_since c.args.log.now.host
          (g.R.Reader.tape c.args.source.now) c.args.input.now _ _ _ _ _ _ A.0 c.in_ok-put_reply.ensures.passed_on c.put_reply.ensures.any_moment;
      stands = A.1;
      room = c.in_ok-put_reply.ensures.room;
      goes_on = goes-two d c.args.log.now.host c.answer_line.new.log.host c.put_reply.new.log.host later c.put_reply.ensures.goes_on;
    }

pub returns : goal.returns
returns g c =
    let d = hosting g.H.Host.seen g.H.Host.heard g.H.Host.may_leave g.H.Host.moment g.H.Host.left_since g.H.Host.origin g.H.Host.file_faults g.H.Host.listener_faults in
    let I = c.loop-line.invariant in
    let T = subst (λ (o : Option Line). LineInTurn d (reading (g.R.Reader.tape c.loop-line.source) (g.R.Reader.tape c.next_line.new.source) c.loop-line.input c.next_line.new.input) c.loop-line.log c.next_line.new.log c.loop-line.output c.next_line.new.output (Ok o)) c.in_default.is c.in_ok-line.ensures.line in
    lines-done d g.E.Engine.keeps g.E.Engine.reply (g.R.Reader.tape c.args.source.now) c.args.input.now c.args.log.now
    (g.R.Reader.tape c.loop-line.source) (g.R.Reader.tape c.next_line.new.source) c.loop-line.input c.next_line.new.input c.loop-line.log c.next_line.new.log c.loop-line.output c.next_line.new.output (g.E.Engine.stands c.loop-line.engine) I.going I.stands T I.goes_on
