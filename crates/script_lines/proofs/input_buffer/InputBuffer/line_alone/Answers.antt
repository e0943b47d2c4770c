use Rattle.std.proofs.Common.{Ok, subst}
use Rattle.script_lines.specs.AtHand.{IsAtHand, Filled}
use Rattle.script_lines.proofs.Growing.{grew, found}
use Rattle.script_lines.proofs.input_buffer.InputBuffer.line_alone.Goals as goal

pub returns-in-Line-clause-line : goal.returns-in-Line-clause-line
returns-in-Line-clause-line g c =
    let t = subst (λ given. IsAtHand c.reads.part c.reads.self c.line_at_hand.new.self given) c.in-Line.is c.in_ok-line.ensures.ok in
    found (g.S.Source.tape c.args.source.now) (g.S.Source.tape c.reads.source) c.args.self.now c.reads.self c.line_at_hand.new.self c.reads.part c.in-Line.line t.1.0 c.reads.invariant t.1.2 t.1.3 t.0 t.1.5 t.1.4

pub reads-preserved : goal.reads-preserved
reads-preserved g c =
    let t = subst (λ given. IsAtHand c.reads.part c.reads.self c.line_at_hand.new.self given) c.in-Part.is c.in_ok-line.ensures.ok in
    let F = subst (λ before. Filled (g.S.Source.tape c.reads.source) (g.S.Source.tape c.fill.new.source) before c.fill.new.self (Ok tt)) t.1 c.in_ok-fill.ensures in
    grew (g.S.Source.tape c.args.source.now) (g.S.Source.tape c.reads.source) (g.S.Source.tape c.fill.new.source) c.args.self.now c.reads.self c.fill.new.self c.reads.part c.in-Part.longer c.reads.invariant t.2 t.0 t.3 F.ok.told F.ok.ended F.ends.going F.ends.later F.calls F.ok.quiet F.ok.fewer F.ok.small
