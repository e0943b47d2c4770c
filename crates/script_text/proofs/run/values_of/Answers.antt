use Rattle.std.proofs.Common.{◌≡◌, ◌∙◌, ◌++◌, map, ap, sym}
use Rattle.std.proofs.lemmas.List.{append-nil}
use Rattle.serde_json.specs.Data.{array}
use Rattle.serde_json.specs.View.{view, items_of}
use Rattle.serde_json.proofs.Views.{view-Array}
use Rattle.script_text.proofs.Texts.{values_by_view}
use Rattle.script_text.proofs.run.values_of.Goals as goal

pub returns : goal.returns
returns c =
    let end = c.in-None.ensures.steps.0 in
    let all : c.loop-value.values.items ≡ map (λ entry. entry.1) c.args.members.entries =
    sym (append-nil c.loop-value.values.items) ∙ ap (λ rest. c.loop-value.values.items ++ rest) (sym end) ∙ c.loop-value.invariant in
    view-Array c.loop-value.values ∙ ap array (ap (λ values. items_of (map view values)) all ∙ sym (values_by_view c.args.members.entries))
