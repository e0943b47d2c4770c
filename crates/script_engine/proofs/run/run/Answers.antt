use Rattle.std.proofs.Common.{◌∙◌, Option, Ok, subst}
use Rattle.std.proofs.lemmas.Result.{err_from_is_err_and}
use Rattle.script_lines.specs.declared.line.Line.{Line}
use Rattle.script_lines.specs.Lines.{LineRead}
use Rattle.script_lines.proofs.Cutting.{cut_bounded}
use Rattle.script_engine.proofs.Running.{asks_first, asks_next, begins, goes_on, ends, no_memory, line_failed, put_failed}
use Rattle.script_engine.specs.Script.{begin}
use Rattle.script_engine.proofs.Applying.{begun, count_at, kind_at, stands_after, text_at}
use Rattle.script_engine.proofs.Tallying.{nothing-counted}
use Rattle.script_engine.proofs.Opening.{nothing_done, nothing_asked, first_line, first_failed, refused}
use Rattle.script_engine.proofs.run.run.Goals as goal

pub returns-in_err-input : goal.returns-in_err-input
returns-in_err-input g c =
    let r = err_from_is_err_and c.from_residual.result c.from_residual.ensures.1 in
    rw (r.1, r.2) (nothing_asked _ _ _ c.requires.empty)

pub next_line-requires : goal.next_line-requires
next_line-requires g c = record { in_turn = asks_first _ _ _ _ g.R.SourceInTurn.may_read c.requires.empty c.in_ok-input.ensures c.requires.in_turn }

pub returns-in_err-first : goal.returns-in_err-first
returns-in_err-first g c =
    let r = err_from_is_err_and c.from_residual-in_err-first.result c.from_residual-in_err-first.ensures.1 in
    let line = c.in_err-first.ensures in
    rw (r.1, r.2) (first_failed _ _ _ _ _ _ _ _ _ c.requires.empty c.in_ok-input.ensures line.line line.passed_on line.grown line.prompt)

pub returns-in-Err : goal.returns-in-Err
returns-in-Err g c =
    let line = c.in_ok-first.ensures in
    let first = first_line _ _ _ _ _ _ _ _ _ c.in_ok-input.ensures c.requires.empty line.line line.passed_on line.grown in
    refused _ _ _ _ _ _ _ _ first.0 c.in-Err.fault _ first.2.0 (λ known. c.in-Err.ensures.fault known first.0 first.1) first.2.1 c.tell_fault.ensures

pub returns-in_err-boxed : goal.returns-in_err-boxed
returns-in_err-boxed g c =
    let r = err_from_is_err_and c.from_residual-in_err-boxed.result c.from_residual-in_err-boxed.ensures.1 in
    let line = c.in_ok-first.ensures in
    let first = first_line _ _ _ _ _ _ _ _ _ c.in_ok-input.ensures c.requires.empty line.line line.passed_on line.grown in
    rw (r.1, r.2) (nothing_done _ _ _ _ _ _ first.2.0.read (cut_bounded _ _ _ _ first.2.0) first.2.1)

pub loop-commands-init : goal.loop-commands-init
loop-commands-init g c =
    let line = c.in_ok-first.ensures in
    let first = first_line _ _ _ _ _ _ _ _ _ c.in_ok-input.ensures c.requires.empty line.line line.passed_on line.grown in
    let stands = begun _ _ _ c.requires.limit c.in_ok-boxed.ensures in
    rw c.deref_mut-repository.ensures.value record {
      history = begin c.in-Ok.catalogue;
      stands = stands;
      running = begins _ _ _ _ _ _ first.0 c.in-Ok.catalogue _ first.2.0 (c.in-Ok.ensures.read first.0 first.1) first.2.1 (nothing-counted _ c.default-summary.ensures);
    }

pub next_line-requires-in-loop-commands : goal.next_line-requires-in-loop-commands
next_line-requires-in-loop-commands g c = record { in_turn = asks_next _ _ _ _ _ _ _ _ g.R.SourceInTurn.may_read c.loop-commands.invariant.running c.requires.in_turn }

pub returns-in_err-line : goal.returns-in_err-line
returns-in_err-line g c =
    let r = err_from_is_err_and c.from_residual-in_err-line.result c.from_residual-in_err-line.ensures.1 in
    let line = c.in_err-line.ensures in
    rw (r.1, r.2) (line_failed _ _ _ _ _ _ _ _ _ _ _ _ _ c.loop-commands.invariant.running line.line line.passed_on line.grown line.prompt)

pub returns-in_err-answered : goal.returns-in_err-answered
returns-in_err-answered g c =
    let r = err_from_is_err_and c.from_residual-in_err-answered.result c.from_residual-in_err-answered.ensures.1 in
    let line = c.in_ok-line.ensures in
    rw (r.1, r.2) (no_memory _ _ _ _ _ _ _ _ _ _ _ _ _ c.loop-commands.invariant.running line.line line.passed_on line.grown line.prompt)

pub returns-in_err-put : goal.returns-in_err-put
returns-in_err-put g c =
    let line = c.in_ok-line.ensures in
    let read = subst (λ (o : Option Line). LineRead (g.R.SourceInTurn.tape c.loop-commands.reader) (g.R.SourceInTurn.tape c.next_line-in-loop-commands.new.source) c.loop-commands.input c.next_line-in-loop-commands.new.self (Ok o)) c.in-Some.is line.line in
    let r = err_from_is_err_and c.from_residual-in_err-put.result c.from_residual-in_err-put.ensures.1 in
    let put = c.in_err-put.ensures in
    rw (r.1, r.2) (put_failed _ _ _ _ _ _ _ _ _ _ _ _ _ _ c.in-Some.line _ put.err.0 c.loop-commands.invariant.running read line.passed_on line.grown line.prompt
    (λ bytes shown. c.deref.ensures.value ∙ (c.in_ok-answered.ensures.text bytes shown ∙ text_at _ _ c.loop-commands.invariant.history bytes c.loop-commands.invariant.stands)) put.err.1 put.err_failures)

pub loop-commands-preserved-in_ok-put : goal.loop-commands-preserved-in_ok-put
loop-commands-preserved-in_ok-put g c =
    let line = c.in_ok-line.ensures in
    let read = subst (λ (o : Option Line). LineRead (g.R.SourceInTurn.tape c.loop-commands.reader) (g.R.SourceInTurn.tape c.next_line-in-loop-commands.new.source) c.loop-commands.input c.next_line-in-loop-commands.new.self (Ok o)) c.in-Some.is line.line in
    let put = c.in_ok-put.ensures in
    goes_on _ _ _ _ _ _ _ _ _ _ _ _ _ _ _ _ c.in-Some.line _ _ c.loop-commands.invariant read line.passed_on line.grown line.prompt
    (λ bytes shown. c.deref.ensures.value ∙ (c.in_ok-answered.ensures.text bytes shown ∙ text_at _ _ c.loop-commands.invariant.history bytes c.loop-commands.invariant.stands)) (λ bytes shown. stands_after _ _ _ c.loop-commands.invariant.history bytes c.loop-commands.invariant.stands (c.in_ok-answered.ensures.after bytes shown)) (λ bytes shown. c.in_ok-answered.ensures.kind bytes shown ∙ kind_at _ _ c.loop-commands.invariant.history bytes c.loop-commands.invariant.stands) c.count.ensures put.ok put.ok_grown put.ok_failures

pub loop-commands-preserved : goal.loop-commands-preserved
loop-commands-preserved g c =
    let line = c.in_ok-line.ensures in
    let read = subst (λ (o : Option Line). LineRead (g.R.SourceInTurn.tape c.loop-commands.reader) (g.R.SourceInTurn.tape c.next_line-in-loop-commands.new.source) c.loop-commands.input c.next_line-in-loop-commands.new.self (Ok o)) c.in-Some.is line.line in
    let put = c.in_ok-put.ensures in
    goes_on _ _ _ _ _ _ _ _ _ _ _ _ _ _ _ _ c.in-Some.line _ _ c.loop-commands.invariant read line.passed_on line.grown line.prompt
    (λ bytes shown. c.deref.ensures.value ∙ (c.in_ok-answered.ensures.text bytes shown ∙ text_at _ _ c.loop-commands.invariant.history bytes c.loop-commands.invariant.stands)) (λ bytes shown. stands_after _ _ _ c.loop-commands.invariant.history bytes c.loop-commands.invariant.stands (c.in_ok-answered.ensures.after bytes shown)) (λ bytes shown. c.in_ok-answered.ensures.kind bytes shown ∙ kind_at _ _ c.loop-commands.invariant.history bytes c.loop-commands.invariant.stands) c.count.ensures put.ok put.ok_grown put.ok_failures

pub returns : goal.returns
returns g c =
    let line = c.in_ok-line.ensures in
    let read = subst (λ (o : Option Line). LineRead (g.R.SourceInTurn.tape c.loop-commands.reader) (g.R.SourceInTurn.tape c.next_line-in-loop-commands.new.source) c.loop-commands.input c.next_line-in-loop-commands.new.self (Ok o)) c.in_default.is line.line in
    ends _ _ _ _ _ _ _ _ _ _ _ _ _ c.loop-commands.invariant.running read line.passed_on line.grown line.prompt (c.len.ensures ∙ count_at _ _ _ c.loop-commands.invariant.stands)
