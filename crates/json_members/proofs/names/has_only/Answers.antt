use Rattle.std.proofs.Common.{◌∙◌, map, false, option_map, unwrap_or, ap}
use Rattle.json_members.specs.Members.{names_among}
use Rattle.json_members.proofs.KeyLemmas.{keys_among}
use Rattle.json_members.proofs.names.has_only.Goals as goal

pub returns-in-Some : goal.returns-in-Some
returns-in-Some c =
    c.keys_among.ensures ∙ keys_among c.args.names.now c.in-Some.members.now.entries
    ∙ ap (λ members. unwrap_or (option_map (names_among (map (λ n. n.now) c.args.names.now)) members) false) c.in-Some.ensures
