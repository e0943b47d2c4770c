use Rattle.std.proofs.Common.{Ok, Err, subst, rules}
use Rattle.std.proofs.lemmas.Result.{err_from_is_err_and}
use Rattle.script_lines.specs.AtHand.{IsAtHand, Filled}
use Rattle.script_lines.specs.Device.{Takes}
use Rattle.script_lines.proofs.Growing.{grew, found, failed, asks_more}
use Rattle.script_lines.proofs.input_buffer.InputBuffer.next_line.Goals as goal

pub returns-in-Line-clause-line : goal.returns-in-Line-clause-line
returns-in-Line-clause-line g c =
    let t = subst (λ given. IsAtHand c.reads.part c.reads.self c.line_at_hand.new.self given) c.in-Line.is c.in_ok-line.ensures.ok in
    found (g.S.SourceInTurn.tape c.args.source.now) (g.S.SourceInTurn.tape c.reads.source) c.args.self.now c.reads.self c.line_at_hand.new.self c.reads.part c.in-Line.line t.1.0 c.reads.invariant.growing t.1.2 t.1.3 t.0 t.1.5 t.1.4

pub reads-preserved : goal.reads-preserved
reads-preserved g c =
    let t = subst (λ given. IsAtHand c.reads.part c.reads.self c.line_at_hand.new.self given) c.in-Part.is c.in_ok-line.ensures.ok in
    let F = subst (λ before. Filled (g.S.SourceInTurn.tape c.reads.source) (g.S.SourceInTurn.tape c.fill.new.self) before c.fill.new.input (Ok tt)) t.1 c.in_ok-fill.ensures in
    record {
      growing = grew (g.S.SourceInTurn.tape c.args.source.now) (g.S.SourceInTurn.tape c.reads.source) (g.S.SourceInTurn.tape c.fill.new.self) c.args.self.now c.reads.self c.fill.new.input c.reads.part c.in-Part.longer c.reads.invariant.growing t.2 t.0 t.3 F.ok.told F.ok.ended F.ends.going F.ends.later F.calls F.ok.quiet F.ok.fewer F.ok.small;
      passing = search rules;
    }

pub returns-in_err-fill-clause-line : goal.returns-in_err-fill-clause-line
returns-in_err-fill-clause-line g c =
    let t = subst (λ given. IsAtHand c.reads.part c.reads.self c.line_at_hand.new.self given) c.in-Part.is c.in_ok-line.ensures.ok in
    let F = subst (λ before. Filled (g.S.SourceInTurn.tape c.reads.source) (g.S.SourceInTurn.tape c.fill.new.self) before c.fill.new.input (Err c.in_err-fill.field-0.0)) t.1 c.in_err-fill.ensures in
    let r = err_from_is_err_and c.from_residual-in_err-fill.result c.from_residual-in_err-fill.ensures.1 in
    rw (r.1, r.2, F.err.fault_is) (failed (g.S.SourceInTurn.tape c.args.source.now) (g.S.SourceInTurn.tape c.reads.source) (g.S.SourceInTurn.tape c.fill.new.self) c.args.self.now c.reads.self c.fill.new.input c.reads.part c.reads.invariant.growing t.2 t.0 F.err.told F.err.ended F.ends.going F.ends.later F.calls F.err.cause)

pub fill-requires-clause-in_turn : goal.fill-requires-clause-in_turn
fill-requires-clause-in_turn g c =
    let t = subst (λ given. IsAtHand c.reads.part c.reads.self c.line_at_hand.new.self given) c.in-Part.is c.in_ok-line.ensures.ok in
    let took : Takes (g.W.Sink.tape c.reads.writer) (g.W.Sink.tape c.flush.new.writer) c.reads.output = search rules in
    asks_more (g.S.SourceInTurn.tape c.args.source.now) (g.S.SourceInTurn.tape c.reads.source) c.args.self.now c.reads.self c.reads.part (g.W.Sink.tape c.args.writer.now) (g.W.Sink.tape c.reads.writer) (g.W.Sink.tape c.flush.new.writer) c.args.output.now c.reads.output g.S.SourceInTurn.may_read
    c.reads.invariant.growing t.0 t.2 c.reads.invariant.passing.kept took c.requires.in_turn
