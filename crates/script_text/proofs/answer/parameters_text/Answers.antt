use Rattle.std.proofs.Common.{rules, ◌≡◌, codes, Ok, ap, ◌∙◌}
use Rattle.serde_json.specs.View.{view}
use Rattle.serde_json.specs.Written.{has_float}
use Rattle.batch_history.specs.declared.query.Answer.TheVariants as answers
use Rattle.script_text.specs.Parameters.{parameters_data}
use Rattle.script_text.specs.Written.{one}
use Rattle.script_text.proofs.Floats.{answer_has_no_float}
use Rattle.script_text.proofs.answer.parameters_text.Goals as goal

pub line_of-requires : goal.line_of-requires
line_of-requires c =
    let is : view c.in_ok-value.value ≡ one (codes "parameters") (parameters_data c.args.parameters.now) = search rules in
    ap has_float is ∙ answer_has_no_float (Ok (answers.Parameters c.args.parameters.now))
