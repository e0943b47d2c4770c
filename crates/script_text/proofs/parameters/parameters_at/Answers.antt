use Rattle.std.proofs.Common.{codes}
use Rattle.lent_json.specs.Looks.{shown}
use Rattle.script_text.proofs.ParameterMembers.{given-found}
use Rattle.script_text.proofs.parameters.parameters_at.Goals as goal

pub returns : goal.returns
returns c = given-found c.optional_texts.result (codes "parameters") (shown c.args.value) c.optional_texts.ensures
