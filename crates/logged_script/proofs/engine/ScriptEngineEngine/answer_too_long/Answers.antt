use Rattle.std.proofs.Common.{◌∙◌, sym}
use Rattle.std.proofs.lemmas.Result.{IfOk-weaker}
use Rattle.logged_script.proofs.Keeping.{long_line}
use Rattle.logged_script.proofs.engine.ScriptEngineEngine.answer_too_long.Goals as goal

pub returns : goal.returns
returns g c = IfOk-weaker c.bad_line_text.result _ _ (λ text is h line long stands. let l = long_line _ h line long in (is ∙ sym l.0, l.1, stands)) c.bad_line_text.ensures
