use Rattle.std.proofs.Common.{◌≡◌, true, false, sym, ◌∙◌, arith}
use Rattle.std.proofs.lemmas.Str.Pattern.{starts_char}
use Rattle.built_in_artifacts.proofs.Parsing.{parsed}
use Rattle.built_in_artifacts.proofs.number.number_of.Goals as goal

pub returns : goal.returns
returns c =
    let d = starts_char 43 c.args.text.now _ c.starts_with.ensures.cases (omega arith) (omega arith) in
    parsed c.args.text.now _ _ c.ok.ensures.value c.if-text-gt-MOST_DIGITS.false (λ e. let both : true ≡ false = sym (d.1 e) ∙ c.if-starts_with.false in cc) c.parse.ensures.value.0
