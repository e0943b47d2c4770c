use Rattle.std.proofs.Common.{refl, ap, ◌∙◌, append-nil, inl, inr, arith, length}
use Rattle.job_threads.proofs.Turns.{faulted}
use Rattle.job_threads.proofs.Marked.{mark-told, holds-eq, marked}
use Rattle.job_threads.proofs.chunk.report_group.Goals as goal

pub returns-in-Err-clause-marks : goal.returns-in-Err-clause-marks
returns-in-Err-clause-marks g c = let f = faulted c.args.reader _ _ c.requires.within c.in-Err.ensures in (f.1, refl, inl f.0)

pub returns-then-len-gt65536-clause-marks : goal.returns-then-len-gt65536-clause-marks
returns-then-len-gt65536-clause-marks g c =
    let told = mark-told c.args.reader c.in-Ok.mark _ _ c.in-Ok.ensures in
    (holds-eq _ _ told.0, refl, inr (omega (arith, ap length told.1)))

pub returns-in-Err-within : goal.returns-in-Err-within
returns-in-Err-within g c = record {
  marks = ((mark-told c.args.reader c.in-Ok.mark _ _ c.in-Ok.ensures).0, refl);
  stops = (λ x h. h, refl, refl);
  refused = inr (c.from.ensures, refl);
}

pub returns-in-Err-checkpoint-clause-marks : goal.returns-in-Err-checkpoint-clause-marks
returns-in-Err-checkpoint-clause-marks g c = ((mark-told c.args.reader c.in-Ok.mark _ _ c.in-Ok.ensures).0, c.in-Err-checkpoint.ensures.reports ∙ append-nil _)

pub returns-in-Ok-StopAsked-clause-marks : goal.returns-in-Ok-StopAsked-clause-marks
returns-in-Ok-StopAsked-clause-marks g c =
    let told = mark-told c.args.reader c.in-Ok.mark _ _ c.in-Ok.ensures in
    (told.0, marked _ _ _ _ _ _ _ _ _ _ c.in-Ok-StopAsked.ensures.reports c.step_of.ensures (c.in-Ok-within.ensures ∙ (c.as_str.ensures.value ∙ told.1)) c.in-Ok-StopAsked.field-0-is)

pub returns-then-tally-clause-marks : goal.returns-then-tally-clause-marks
returns-then-tally-clause-marks g c =
    let told = mark-told c.args.reader c.in-Ok.mark _ _ c.in-Ok.ensures in
    (told.0, marked _ _ _ _ _ _ _ _ _ _ c.in-Ok-Go.ensures.reports c.step_of.ensures (c.in-Ok-within.ensures ∙ (c.as_str.ensures.value ∙ told.1)) c.in-Ok-Go.field-0-is, c.if-tally.true)

pub returns-clause-marks : goal.returns-clause-marks
returns-clause-marks g c =
    let told = mark-told c.args.reader c.in-Ok.mark _ _ c.in-Ok.ensures in
    (told.0, marked _ _ _ _ _ _ _ _ _ _ c.in-Ok-Go.ensures.reports c.step_of.ensures (c.in-Ok-within.ensures ∙ (c.as_str.ensures.value ∙ told.1)) c.in-Ok-Go.field-0-is, c.if-tally.false)
