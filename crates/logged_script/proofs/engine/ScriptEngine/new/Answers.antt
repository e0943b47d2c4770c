use Rattle.std.proofs.Common.{[], ◌∙◌, ap}
use Rattle.std.proofs.lemmas.Result.{IfOk-weaker}
use Rattle.logged_script.proofs.Keeping.{fresh}
use Rattle.logged_script.proofs.engine.ScriptEngine.new.Goals as goal

pub returns : goal.returns
returns g c =
    IfOk-weaker c.over.result _ _
    (λ engine same line is. record { limit_is = c.requires; rows_are = fresh _ _ _ line [] is (ap g.J.RowRepository.rows same ∙ c.in_ok-repository.ensures.begun) })
    c.over.ensures
