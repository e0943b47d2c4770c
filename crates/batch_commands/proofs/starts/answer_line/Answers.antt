use Rattle.std.proofs.Common.{◌∙◌, sym}
use Rattle.std.proofs.lemmas.Result.{err_from_is_err_and}
use Rattle.batch_commands.proofs.Starting.{passed_over, line_refused, line_refused_short, line_started}
use Rattle.batch_commands.proofs.starts.answer_line.Goals as goal

pub returns-then-is_empty : goal.returns-then-is_empty
returns-then-is_empty g c = λ bytes shown. passed_over _ _ bytes _ _ (sym (c.is_empty.ensures bytes shown) ∙ c.if-is_empty.true)

pub returns-in-Ok : goal.returns-in-Ok
returns-in-Ok g c = λ bytes shown. line_started _ _ _ bytes _ _ _ _ _ _ (sym (c.is_empty.ensures bytes shown) ∙ c.if-is_empty.false) (c.in-Ok.ensures bytes shown) c.start_job.ensures

pub returns-in_err-refuse_line-in-Err : goal.returns-in_err-refuse_line-in-Err
returns-in_err-refuse_line-in-Err g c =
    let r = err_from_is_err_and c.from_residual.result c.from_residual.ensures.1 in
    rw (r.1, r.2) (λ bytes shown. line_refused_short _ _ bytes _ _ _ _ _ _ (sym (c.is_empty.ensures bytes shown) ∙ c.if-is_empty.false) (c.in-Err.ensures bytes shown) c.in_err-refuse_line-in-Err.ensures)

pub returns-in_ok-refuse_line-in-Err : goal.returns-in_ok-refuse_line-in-Err
returns-in_ok-refuse_line-in-Err g c = λ bytes shown. line_refused _ _ bytes _ _ _ _ _ (sym (c.is_empty.ensures bytes shown) ∙ c.if-is_empty.false) (c.in-Err.ensures bytes shown) c.in_ok-refuse_line-in-Err.ensures
