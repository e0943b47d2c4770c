use Rattle.std.proofs.Common.{◌≡◌, drop, map}
use Rattle.serde_json.specs.Data.{no_members}
use Rattle.serde_json.specs.View.{members_view}
use Rattle.script_text.specs.Written.{with_members}
use Rattle.script_text.specs.Parameters.{text_named}
use Rattle.script_text.proofs.parameters.parameters_value.Given as goal

abbrev pub invariant-loop-parameter : goal.invariant-loop-parameter
invariant-loop-parameter l =
    with_members (members_view l.members.entries) (map text_named (drop l.parameter-index l.parameter-items))
    ≡ with_members no_members (map text_named l.parameters)
