use Rattle.std.proofs.Common.{◌≡◌, ◌+◌, ◌<◌, ◌∷◌, [], List, ℕ, Bor, length, drop, get_or, sym, ap, subst, ◌∙◌}
use Rattle.std.proofs.Math.ListN.{drop_of_length-le}
use Rattle.std.proofs.lemmas.List.{drop_more}
use Rattle.batch_ids.specs.Parameters.{Pair, IsRising, pairs_of, with_pair, with_all}
use Rattle.batch_ids.proofs.Placed.{rising-with_pair}
use Rattle.lent_json.specs.Kinds.{text_of}
use Rattle.lent_json.specs.declared.flat.Scalar.{Scalar}
use Rattle.script_text.specs.LentParameters.{lent_pairs}
use Rattle.script_text.proofs.parameters.lent_text_pairs.Goals as goal

-- the pairs with the member at a place, and with all behind it
one-more : (ms : List (Bor (List ℕ) × Scalar)) (i : ℕ) (m : Bor (List ℕ) × Scalar) (held new : List Pair) (text : List ℕ) → i < length ms
    → text ≡ text_of (get_or ms i m).1 → new ≡ with_pair held ((get_or ms i m).0.now, text) → with_all new (lent_pairs (drop (i + 1) ms)) ≡ with_all held (lent_pairs (drop i ms))
one-more ms i m held new text within is put =
    ap (λ pairs. with_all pairs (lent_pairs (drop (i + 1) ms))) (put ∙ ap (λ t. with_pair held ((get_or ms i m).0.now, t)) is)
    ∙ ap (λ left. with_all held (lent_pairs left)) (sym (drop_more ms i m within))

still-rising : (held new : List Pair) (pair : Pair) → IsRising held → new ≡ with_pair held pair → IsRising new
still-rising held new pair rising put = subst IsRising (sym put) (rising-with_pair held pair rising)

pub loop-member-preserved : goal.loop-member-preserved
loop-member-preserved c =
    let put = c.in_ok-put_text.ensures in record {
      rising = still-rising (pairs_of c.loop-member.pairs.items) (pairs_of c.put_text.new.pairs.items) _ c.loop-member.invariant.rising put;
      due = one-more c.args.members.now c.loop-member.member-index _ (pairs_of c.loop-member.pairs.items) (pairs_of c.put_text.new.pairs.items) c.text.result.now c.loop-member-test.true c.text.ensures put
          ∙ c.loop-member.invariant.due;
    }

pub returns : goal.returns
returns c =
    let ms = c.args.members.now in
    let held = pairs_of c.loop-member.pairs.items in
    let none : drop c.loop-member.member-index ms ≡ [] = drop_of_length-le ms c.loop-member-test.false in
    ap (λ left. with_all held (lent_pairs left)) (sym none) ∙ c.loop-member.invariant.due
