use Rattle.std.proofs.Common.{rules, ◌≡◌, ◌-◌, ◌<◌, length, get_or, sym, ◌∙◌, string_bytes, nat_cmp}
use Rattle.std.specs.Ordering.{is_lt}
use Rattle.std.specs.Cmp.Lexicographic.{slice_cmp}
use Rattle.script_text.proofs.Pairs.{above-all}
use Rattle.script_text.proofs.parameters.is_above_all.Goals as goal

pub returns-in-Some : goal.returns-in-Some
returns-in-Some c =
    let pairs = c.args.pairs.now in
    let last = c.in-Some.last.now in
    let some : 0 < length pairs = search rules in
    let at : get_or pairs (length pairs - 1) last ≡ last = search rules in
    let test : c.lt.result ≡ is_lt (slice_cmp nat_cmp (string_bytes last.0) c.args.name.now) = search rules in
    λ is text. above-all pairs last c.args.name.now text c.requires some at (sym test ∙ is)
