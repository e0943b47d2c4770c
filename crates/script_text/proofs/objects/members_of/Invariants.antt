use Rattle.std.proofs.Common.{◌≡◌, drop, map}
use Rattle.serde_json.specs.Data.{no_members}
use Rattle.serde_json.specs.View.{members_view}
use Rattle.script_text.specs.Written.{with_members}
use Rattle.script_text.specs.Shown.{shown_named}
use Rattle.script_text.proofs.objects.members_of.Given as goal

abbrev pub invariant-loop-name : goal.invariant-loop-name
invariant-loop-name l =
    with_members (members_view l.made.entries) (map shown_named (drop l.name-index l.members))
    ≡ with_members no_members (map shown_named l.members)
