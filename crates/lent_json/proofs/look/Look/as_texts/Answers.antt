use Rattle.std.proofs.Common.{sym, ap, ◌∙◌, true≢false}
use Rattle.lent_json.specs.Looks.{shown, is_inside}
use Rattle.lent_json.specs.TextObjects.{as_texts_value}
use Rattle.lent_json.proofs.TextObjects.{texts-are, counts-are-none, scalar-none}
use Rattle.lent_json.proofs.look.Look.as_texts.Goals as goal

pub returns-in-Texts : goal.returns-in-Texts
returns-in-Texts c =
    let texts = c.in-Texts.texts.now in
    texts-are texts.members.items texts.texts ∙ ap (λ s. as_texts_value (shown s)) (sym c.in-Texts.is)

pub returns-in-Counts : goal.returns-in-Counts
returns-in-Counts c =
    let counts = c.in-Counts.field-0.now in
    counts-are-none counts.members.items counts.counts ∙ ap (λ s. as_texts_value (shown s)) (sym c.in-Counts.is)

pub returns-in-Scalar : goal.returns-in-Scalar
returns-in-Scalar c = scalar-none c.in-Scalar.field-0 ∙ ap (λ s. as_texts_value (shown s)) (sym c.in-Scalar.is)

pub returns-in-Flat : goal.returns-in-Flat
returns-in-Flat c = absurd (true≢false (sym c.requires ∙ ap is_inside c.in-Flat.is))
