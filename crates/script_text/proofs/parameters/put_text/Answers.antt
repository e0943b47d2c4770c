use Rattle.std.proofs.Common.{rules, ◌≡◌, string_bytes, set, ap, subst, ◌∙◌}
use Rattle.std.specs.List.{insert}
use Rattle.batch_ids.specs.Parameters.{pairs_of, with_pair}
use Rattle.script_text.proofs.Pairs.{written, inserted}
use Rattle.script_text.proofs.parameters.put_text.Goals as goal

pub returns-in-Ok : goal.returns-in-Ok
returns-in-Ok c =
    let pairs = c.args.pairs.now.items in
    let name = c.in_ok-from_str.field-0 in
    let value = c.in_ok-from_str-2.field-0 in
    let name_is : string_bytes name ≡ c.args.name.now = search rules in
    let value_is : string_bytes value ≡ c.args.text.now = search rules in
    let due : with_pair (pairs_of pairs) (c.args.name.now, c.args.text.now) ≡ set (pairs_of pairs) c.in-Ok.at (c.args.name.now, c.args.text.now) =
    subst (λ held. with_pair (pairs_of held) (c.args.name.now, c.args.text.now) ≡ set (pairs_of held) c.in-Ok.at (c.args.name.now, c.args.text.now)) c.as_slice.ensures.value (c.in-Ok.ensures.held.1 c.args.text.now) in
    written pairs c.in-Ok.at name value c.args.name.now c.args.text.now name_is value_is due

pub returns-in_ok-insert-in-Err : goal.returns-in_ok-insert-in-Err
returns-in_ok-insert-in-Err c =
    let pairs = c.args.pairs.now.items in
    let name = c.in_ok-from_str.field-0 in
    let value = c.in_ok-from_str-2.field-0 in
    let name_is : string_bytes name ≡ c.args.name.now = search rules in
    let value_is : string_bytes value ≡ c.args.text.now = search rules in
    let due : with_pair (pairs_of pairs) (c.args.name.now, c.args.text.now) ≡ insert (pairs_of pairs) c.in-Err.at (c.args.name.now, c.args.text.now) =
    subst (λ held. with_pair (pairs_of held) (c.args.name.now, c.args.text.now) ≡ insert (pairs_of held) c.in-Err.at (c.args.name.now, c.args.text.now)) c.as_slice.ensures.value (c.in-Err.ensures.absent.1 c.args.text.now) in
    ap pairs_of c.in_ok-insert-in-Err.ensures.items ∙ inserted pairs c.in-Err.at name value c.args.name.now c.args.text.now name_is value_is due
