use Rattle.std.proofs.Common.{◌≡◌, ◌==◌, get_or, drop, true, false, sym, ap, ◌∙◌}
use Rattle.std.specs.Option.{option_and_then}
use Rattle.fast_float.specs.Text.{scan}
use Rattle.serde_json.specs.Read.{number_of, number_from}
use Rattle.serde_json.specs.Find.{as_u64}
use Rattle.lent_json.specs.Flat.{count_in}
use Rattle.lent_json.proofs.Counts.{no-negative, positive}
use Rattle.lent_json.proofs.numbers.count_in.Goals as goal

pub returns-then-has_minus : goal.returns-then-has_minus
unfolding number_of count_in
returns-then-has_minus c =
    let s = c.as_bytes-bytes.result.now in
    let signed : (get_or s 0 0 == 45) ≡ true = sym c.if-has_minus.ensures in
    let read : option_and_then as_u64 (number_from true (scan (drop 1 s))) ≡ count_in s = rw signed in
    sym (no-negative (scan (drop 1 s))) ∙ read ∙ ap count_in c.as_bytes-bytes.ensures.value

pub returns-else-has_minus : goal.returns-else-has_minus
unfolding number_of count_in
returns-else-has_minus c =
    let s = c.as_bytes-bytes.result.now in
    let unsigned : (get_or s 0 0 == 45) ≡ false = sym c.if-has_minus.ensures in
    let read : option_and_then as_u64 (number_from false (scan s)) ≡ count_in s = rw unsigned in
    positive c.scan.result c.to_u64.result c.to_u64.ensures
    ∙ ap (λ p. option_and_then as_u64 (number_from false p)) c.scan.ensures.parts ∙ read ∙ ap count_in c.as_bytes-bytes.ensures.value
