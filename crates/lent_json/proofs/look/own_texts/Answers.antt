use Rattle.std.proofs.Common.{sym, ◌∙◌}
use Rattle.serde_json.specs.View.{view, members_view}
use Rattle.lent_json.proofs.TextObjects.{texts-by-values, own-texts, own-others}
use Rattle.lent_json.proofs.look.own_texts.Goals as goal

pub returns-then-are_texts : goal.returns-then-are_texts
returns-then-are_texts c =
    let entries = c.in-Some.members.now.entries in
    own-texts (view c.args.value.now) (members_view entries) c.in-Some.ensures (sym (texts-by-values entries) ∙ sym c.are_texts.ensures ∙ c.if-are_texts.true)

pub returns-else-are_texts : goal.returns-else-are_texts
returns-else-are_texts c =
    let entries = c.in-Some.members.now.entries in
    own-others (view c.args.value.now) (members_view entries) c.in-Some.ensures (sym (texts-by-values entries) ∙ sym c.are_texts.ensures ∙ c.if-are_texts.false)
