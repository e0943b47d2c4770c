use Rattle.std.proofs.Common.{◌∙◌}
use Rattle.durable_log.proofs.Digits.{no-fourth, four-digits}
use Rattle.durable_log.proofs.columns.half.Goals as goal

pub returns-in_err-value-4-clause-value : goal.returns-in_err-value-4-clause-value
returns-in_err-value-4-clause-value c = c.from_residual-in_err-value-4.ensures ∙ no-fourth c.args.a c.args.b c.args.c c.args.d c.in_err-value-4.ensures.value

pub returns-clause-value : goal.returns-clause-value
returns-clause-value c =
    four-digits c.args.a c.args.b c.args.c c.args.d c.in_ok-value.field-0 c.in_ok-value-2.field-0 c.in_ok-value-3.field-0 c.in_ok-value-4.field-0
    c.in_ok-value.ensures.value c.in_ok-value-2.ensures.value c.in_ok-value-3.ensures.value c.in_ok-value-4.ensures.value
