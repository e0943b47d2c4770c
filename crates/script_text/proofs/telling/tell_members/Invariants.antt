use Rattle.std.proofs.Common.{◌≡◌, ◌++◌, drop}
use Rattle.json.specs.Tree.{members_tokens}
use Rattle.serde_json.specs.Written.{members_outline}
use Rattle.script_text.specs.Telling.{told_members}
use Rattle.script_text.proofs.telling.tell_members.Given as goal

abbrev pub invariant-loop-name : goal.invariant-loop-name
invariant-loop-name l =
    (l.out.tokens ++ members_tokens (members_outline (told_members (drop l.name-index l.members)))
    ≡ l.initial.out.tokens ++ members_tokens (members_outline (told_members l.members)))
    × (l.out.before ≡ l.initial.out.before)
