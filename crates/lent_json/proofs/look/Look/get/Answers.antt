use Rattle.std.proofs.Common.{Some, option_map, sym, ap, ◌∙◌}
use Rattle.serde_json.specs.Find.{get}
use Rattle.lent_json.specs.Flat.{member_data, last_named}
use Rattle.lent_json.specs.Looks.{shown}
use Rattle.lent_json.proofs.Members.{get-last}
use Rattle.lent_json.proofs.look.Look.get.Goals as goal

pub returns-in_err-member-in-Flat-clause-shown : goal.returns-in_err-member-in-Flat-clause-shown
returns-in_err-member-in-Flat-clause-shown c =
    let name = c.args.name.now in
    let ms = c.in-Flat.object.now.members.items in
    ap (option_map shown) c.from_residual-in_err-member-in-Flat.ensures
    ∙ ap (option_map member_data) (c.in_err-member-in-Flat.ensures ∙ ap (last_named name) c.as_slice.ensures.value)
    ∙ get-last member_data name ms ∙ ap (λ s. get name (shown s)) (sym c.in-Flat.is)

pub returns-in_ok-member-in-Flat-clause-shown : goal.returns-in_ok-member-in-Flat-clause-shown
returns-in_ok-member-in-Flat-clause-shown c =
    let name = c.args.name.now in
    let ms = c.in-Flat.object.now.members.items in
    ap Some c.look_at.ensures.shown
    ∙ ap (option_map member_data) (c.in_ok-member-in-Flat.ensures ∙ ap (last_named name) c.as_slice.ensures.value)
    ∙ get-last member_data name ms ∙ ap (λ s. get name (shown s)) (sym c.in-Flat.is)
