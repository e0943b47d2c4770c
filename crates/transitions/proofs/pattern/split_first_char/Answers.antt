use Rattle.std.proofs.Common.{sym, ◌∙◌}
use Rattle.std.proofs.lemmas.Str.{chars_past_char}
use Rattle.transitions.proofs.pattern.split_first_char.Goals as goal

pub returns : goal.returns
returns c =
    let e = sym c.chars-characters.ensures.rest ∙ c.in_ok-first.ensures.steps.0 in
    rw c.as_str.ensures (chars_past_char c.args.s.now _ c.in_ok-first.first c.utf8.s e)
