use Rattle.std.proofs.Common.{map, sym, ap, ◌∙◌}
use Rattle.json_members.specs.Members.{has_only}
use Rattle.lent_json.specs.Flat.{scalar_data, member_data, flat_data, scalars_data}
use Rattle.lent_json.specs.Looks.{shown}
use Rattle.lent_json.proofs.Members.{only-these}
use Rattle.lent_json.proofs.look.Look.has_only.Goals as goal

pub returns-in-Flat : goal.returns-in-Flat
returns-in-Flat c =
    let names = map (λ name. name.now) c.args.names.now in
    c.keys_among.ensures ∙ only-these member_data c.args.names.now c.as_slice.result.now
    ∙ ap (λ ms. has_only names (flat_data ms)) c.as_slice.ensures.value ∙ ap (λ s. has_only names (shown s)) (sym c.in-Flat.is)

pub returns-in-Counts : goal.returns-in-Counts
returns-in-Counts c =
    let names = map (λ name. name.now) c.args.names.now in
    c.keys_among-in-Counts.ensures ∙ only-these scalar_data c.args.names.now c.as_slice-in-Counts.result.now
    ∙ ap (λ ms. has_only names (scalars_data ms)) c.as_slice-in-Counts.ensures.value ∙ ap (λ s. has_only names (shown s)) (sym c.in-Counts.is)

pub returns-in-Texts : goal.returns-in-Texts
returns-in-Texts c =
    let names = map (λ name. name.now) c.args.names.now in
    c.keys_among-in-Texts.ensures ∙ only-these scalar_data c.args.names.now c.as_slice-in-Texts.result.now
    ∙ ap (λ ms. has_only names (scalars_data ms)) c.as_slice-in-Texts.ensures.value ∙ ap (λ s. has_only names (shown s)) (sym c.in-Texts.is)
