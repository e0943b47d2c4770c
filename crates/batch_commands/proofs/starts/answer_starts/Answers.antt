use Rattle.std.proofs.Common.{Option, Ok, refl, subst}
use Rattle.std.proofs.lemmas.Result.{err_from_is_err_and}
use Rattle.script_lines.specs.declared.line.Line.{Line}
use Rattle.script_lines.specs.Lines.{LineRead}
use Rattle.batch_commands.proofs.Starting.{no_line, not_write, starts_broken, starts_end, starts_failed, turn_counted, turn_kept}
use Rattle.batch_commands.proofs.starts.answer_starts.Goals as goal

pub loop-line-init : goal.loop-line-init
loop-line-init g c = no_line _ _ _ _ _ _

pub returns-in_err-line : goal.returns-in_err-line
returns-in_err-line g c =
    let r = err_from_is_err_and c.from_residual.result c.from_residual.ensures.1 in
    let line = c.in_err-line.ensures in
    rw (r.1, r.2) (starts_failed _ _ _ _ _ _ _ _ _ _ _ _ _ _ _ c.loop-line.invariant line.line (not_write _ _ refl line.nothing_written))

pub returns-in_err-answered : goal.returns-in_err-answered
returns-in_err-answered g c =
    let r = err_from_is_err_and c.from_residual-in_err-answered.result c.from_residual-in_err-answered.ensures.1 in
    let line = c.in_ok-line.ensures in
    let read = subst (λ (o : Option Line). LineRead (g.S.Source.tape c.loop-line.source) (g.S.Source.tape c.line_alone.new.source) c.loop-line.input c.line_alone.new.self (Ok o)) c.in-Some.is line.line in
    rw (r.1, r.2) (starts_broken _ _ _ _ _ _ _ _ _ _ _ _ _ _ _ _ _ _ _ c.loop-line.invariant read (c.in_err-answered.ensures read.outcome.0 read.outcome.1))

pub loop-line-preserved-then-branch : goal.loop-line-preserved-then-branch
loop-line-preserved-then-branch g c =
    let line = c.in_ok-line.ensures in
    let read = subst (λ (o : Option Line). LineRead (g.S.Source.tape c.loop-line.source) (g.S.Source.tape c.line_alone.new.source) c.loop-line.input c.line_alone.new.self (Ok o)) c.in-Some.is line.line in
    turn_counted _ _ _ _ _ _ _ _ _ _ _ _ _ _ _ _ _ _ _ _ c.loop-line.invariant read c.if-branch.true c.saturating_add-started.ensures (c.in_ok-answered.ensures read.outcome.0 read.outcome.1)

pub loop-line-preserved : goal.loop-line-preserved
loop-line-preserved g c =
    let line = c.in_ok-line.ensures in
    let read = subst (λ (o : Option Line). LineRead (g.S.Source.tape c.loop-line.source) (g.S.Source.tape c.line_alone.new.source) c.loop-line.input c.line_alone.new.self (Ok o)) c.in-Some.is line.line in
    turn_kept _ _ _ _ _ _ _ _ _ _ _ _ _ _ _ _ _ _ _ c.loop-line.invariant read c.if-branch.false (c.in_ok-answered.ensures read.outcome.0 read.outcome.1)

pub returns : goal.returns
returns g c =
    let line = c.in_ok-line.ensures in
    let read = subst (λ (o : Option Line). LineRead (g.S.Source.tape c.loop-line.source) (g.S.Source.tape c.line_alone.new.source) c.loop-line.input c.line_alone.new.self (Ok o)) c.in_default.is line.line in
    starts_end _ _ _ _ _ _ _ _ _ _ _ _ _ _ c.loop-line.invariant read
