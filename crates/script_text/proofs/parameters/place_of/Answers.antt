use Rattle.std.proofs.Common.{rules, ◌≡◌, ◌≤◌, ◌<◌, ◌+◌, ◌-◌, ◌/◌, [], length, get_or, refl, subst, arith, string_bytes, nat_cmp, Less, Equal, Greater}
use Rattle.std.specs.Cmp.Lexicographic.{slice_cmp}
use Rattle.std.proofs.lemmas.List.{length-map}
use Rattle.batch_ids.specs.Parameters.{key_cmp, pair_of, pairs_of}
use Rattle.script_text.proofs.Pairs.{compared}
use Rattle.script_text.proofs.Halving.{above, here, gap}
use Rattle.script_text.proofs.parameters.place_of.Goals as goal

pub loop-low-init : goal.loop-low-init
loop-low-init c =
    let pairs = c.args.pairs.now in
    (omega arith, omega arith, (λ text. refl), (([], []), λ text lt. absurd (omega (arith, length-map pairs pair_of))))

pub loop-low-preserved-in-Less : goal.loop-low-preserved-in-Less
loop-low-preserved-in-Less c =
    let I = c.loop-low.invariant in
    let pairs = c.args.pairs.now in
    let m = c.loop-low.low + (c.loop-low.high - c.loop-low.low) / 2 in
    let pair = c.index-pairs-middle.result in
    let at : get_or pairs m pair ≡ pair = search rules in
    let is : slice_cmp nat_cmp (string_bytes pair.0) c.args.name.now ≡ Less = search rules in
    let lt : c.loop-low.low < c.loop-low.high = search rules in
    let below : m < c.loop-low.high = omega arith in
    let within : m < length (pairs_of pairs) = omega (arith, length-map pairs pair_of, I.1) in
    (omega arith, I.1, (λ text. above (pairs_of pairs) m (pair_of pair) (c.args.name.now, text) c.requires within (compared pairs m pair c.args.name.now text Less at is)), I.3)

pub returns-in-Equal-clause-held : goal.returns-in-Equal-clause-held
returns-in-Equal-clause-held c =
    let I = c.loop-low.invariant in
    let pairs = c.args.pairs.now in
    let m = c.loop-low.low + (c.loop-low.high - c.loop-low.low) / 2 in
    let pair = c.index-pairs-middle.result in
    let at : get_or pairs m pair ≡ pair = search rules in
    let is : slice_cmp nat_cmp (string_bytes pair.0) c.args.name.now ≡ Equal = search rules in
    let lt : c.loop-low.low < c.loop-low.high = search rules in
    let below : m < c.loop-low.high = omega arith in
    let within : m < length (pairs_of pairs) = omega (arith, length-map pairs pair_of, I.1) in
    (omega (arith, I.1), λ text. here (pairs_of pairs) m (pair_of pair) (c.args.name.now, text) c.requires within (compared pairs m pair c.args.name.now text Equal at is))

pub loop-low-preserved : goal.loop-low-preserved
loop-low-preserved c =
    let I = c.loop-low.invariant in
    let pairs = c.args.pairs.now in
    let m = c.loop-low.low + (c.loop-low.high - c.loop-low.low) / 2 in
    let pair = c.index-pairs-middle.result in
    let at : get_or pairs m pair ≡ pair = search rules in
    let is : slice_cmp nat_cmp (string_bytes pair.0) c.args.name.now ≡ Greater = search rules in
    let lt : c.loop-low.low < c.loop-low.high = search rules in
    let below : m < c.loop-low.high = omega arith in
    (omega arith, omega (arith, I.1), I.2, (pair_of pair, λ text _. compared pairs m pair c.args.name.now text Greater at is))

pub returns-clause-absent : goal.returns-clause-absent
returns-clause-absent c =
    let I = c.loop-low.invariant in
    let pairs = c.args.pairs.now in
    let not_lt : (c.loop-low.low < c.loop-low.high) → ⊥ = search rules in
    let same : c.loop-low.high ≡ c.loop-low.low = omega (arith, I.0, not_lt) in (
      omega (arith, I.0, I.1),
      λ text.
          gap (pairs_of pairs) c.loop-low.low I.3.0 (c.args.name.now, text)
          (subst (λ i. i < length (pairs_of pairs) → key_cmp (get_or (pairs_of pairs) i I.3.0) (c.args.name.now, text) ≡ Greater) same (I.3.1 text))
          (I.2 text),
    )
