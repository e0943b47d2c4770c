use Rattle.std.proofs.Common.{◌∷◌, [], ◌++◌, ap, ◌∙◌}
use Rattle.json.specs.Print.{print}
use Rattle.serde_json.proofs.Texts.{print-outline}
use Rattle.script_text.specs.Written.{line_of}
use Rattle.script_text.specs.Telling.{told_after}
use Rattle.script_text.proofs.telling.line_from.Goals as goal

pub returns : goal.returns
unfolding line_of told_after
returns c d is =
    c.in_ok-push.ensures.items
    ∙ ap (λ text. text ++ 10 ∷ []) (c.into_inner-text.ensures.items ∙ ap (λ before. before ++ print c.args.out.tokens) c.requires ∙ ap print is ∙ print-outline d)
