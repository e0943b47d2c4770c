use Rattle.std.proofs.Common.{◌∙◌, string_bytes, slice_get, Some, option_map, option_and_then, ap}
use Rattle.catalogue_places.specs.Flaws.{names_in}
use Rattle.fault_places.proofs.Names.{nth_name_of}
use Rattle.fault_places.proofs.site.name_of_number.Goals as goal

pub returns-in-Some-nth_key : goal.returns-in-Some-nth_key
returns-in-Some-nth_key c =
    ap Some c.as_str.ensures.value
    ∙ ap (option_map string_bytes) c.in-Some-nth_key.ensures
    ∙ nth_name_of c.in-Some.members.now.entries c.args.number
    ∙ ap (option_and_then (λ ms. slice_get (names_in ms) c.args.number)) c.in-Some.ensures

pub returns-in-None-nth_key : goal.returns-in-None-nth_key
returns-in-None-nth_key c =
    ap (option_map string_bytes) c.in-None-nth_key.ensures
    ∙ nth_name_of c.in-Some.members.now.entries c.args.number
    ∙ ap (option_and_then (λ ms. slice_get (names_in ms) c.args.number)) c.in-Some.ensures
