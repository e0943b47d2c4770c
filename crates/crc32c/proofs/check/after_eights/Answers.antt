use Rattle.std.proofs.Common.{◌≡◌, ◌∙◌, ◌-◌, ◌∷◌, [], ℕ, length, take, drop, ap}
use Rattle.std.specs.Prelude.{bit_xor}
use Rattle.crc32c.specs.Check.{after_bits, after_bytes}
use Rattle.crc32c.proofs.Fours.{at, eight-by, split-eight}
use Rattle.crc32c.proofs.check.after_eights.Goals as goal

pub loop-left-preserved : goal.loop-left-preserved
loop-left-preserved c =
    let left = c.loop-left.left.now in
    let half = after_bytes c.loop-left.now (at left 0 ∷ at left 1 ∷ at left 2 ∷ at left 3 ∷ []) in
    let both : bit_xor c.after_64-first.result c.after_32.result ≡ after_bytes half (at left 4 ∷ at left 5 ∷ at left 6 ∷ at left 7 ∷ []) =
    (λ i. bit_xor (c.after_64-first.ensures i) (c.after_32.ensures i))
    ∙ eight-by c.loop-left.now c.word_of.result c.word_of-in-len8-up.result
    ∙ ap (λ (s : ℕ). after_bits 32 (bit_xor s c.word_of-in-len8-up.result)) (c.word_of.ensures c.loop-left.now)
    ∙ c.word_of-in-len8-up.ensures half in
    ap (λ (s : ℕ). after_bytes s (take (length left - 8) (drop 8 left))) both
    ∙ ap (after_bytes c.loop-left.now) (split-eight left c.in-len8-up.len_at_least)
    ∙ c.loop-left.invariant
