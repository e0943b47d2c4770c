use Rattle.std.proofs.Common.{map, ◌∙◌, ap}
use Rattle.durable_log.specs.Shown.{record_shown}
use Rattle.script_log.specs.Bases.{lines_of_records}
use Rattle.logged_script.proofs.Keeping.{fresh}
use Rattle.logged_script.proofs.engine.ScriptEngine.restored.Goals as goal

pub returns-in-Ok-clause-answers : goal.returns-in-Ok-clause-answers
returns-in-Ok-clause-answers g c = λ line is. record { limit_is = c.requires; rows_are = fresh _ _ _ line (lines_of_records (map record_shown c.args.base.now)) is (ap g.J.RowRepository.rows c.in-Ok.ensures ∙ c.in_ok-repository.ensures.rows) }
