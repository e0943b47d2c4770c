use Rattle.std.proofs.Common.{◌≡◌, Some, IfOk, sym, ap, subst, ◌∙◌}
use Rattle.batch_ids.specs.Parameters.{pairs_of, parameters_of}
use Rattle.lent_json.specs.TextObjects.{texts_data}
use Rattle.script_text.specs.LentParameters.{lent_pairs}
use Rattle.script_text.specs.Parameters.{given_pairs}
use Rattle.script_text.proofs.LentParameters.{lent-given}
use Rattle.script_text.proofs.parameters.given_pairs.Goals as goal

pub returns-in-Lent : goal.returns-in-Lent
returns-in-Lent c =
    let texts = c.in-Lent.texts.now in
    let is : parameters_of (lent_pairs c.members.result.now) ≡ given_pairs (texts_data c.args.object) =
    ap (λ ms. parameters_of (lent_pairs ms)) c.members.ensures ∙ lent-given texts.members.items texts.texts ∙ ap (λ t. given_pairs (texts_data t)) (sym c.in-Lent.is) in
    subst (λ due. IfOk c.lent_text_pairs.result (λ pairs. pairs_of pairs.items ≡ due)) is c.lent_text_pairs.ensures
