use Rattle.std.proofs.Common.{option_map, ap, ◌∙◌}
use Rattle.lent_json.specs.Flat.{scalar_data}
use Rattle.lent_json.specs.Looks.{shown}
use Rattle.lent_json.proofs.Members.{get-last}
use Rattle.lent_json.proofs.look.look_among.Goals as goal

pub returns-in_err-scalar-clause-shown : goal.returns-in_err-scalar-clause-shown
returns-in_err-scalar-clause-shown c =
    ap (option_map shown) c.from_residual.ensures ∙ ap (option_map scalar_data) c.in_err-scalar.ensures ∙ get-last scalar_data c.args.name.now c.args.members.now

pub returns-clause-shown : goal.returns-clause-shown
returns-clause-shown c = ap (option_map scalar_data) c.in_ok-scalar.ensures ∙ get-last scalar_data c.args.name.now c.args.members.now
