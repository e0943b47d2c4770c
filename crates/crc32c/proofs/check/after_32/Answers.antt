use Rattle.std.proofs.Common.{◌%◌, ◌/◌, ◌∙◌, arith}
use Rattle.std.specs.Prelude.{bit_xor}
use Rattle.crc32c.proofs.Tables.{at-8, at-16, at-24, at-32}
use Rattle.crc32c.proofs.Fours.{spread}
use Rattle.crc32c.proofs.check.after_32.Goals as goal

pub returns : goal.returns
returns c =
    let word = c.args.word in
    let first = at-8 (word / 16777216) (omega (arith, c.ranges.word.fits)) in
    let second = at-16 (word / 65536 % 256) (omega arith) in
    let third = at-24 (word / 256 % 256) (omega arith) in
    let fourth = at-32 (word % 256) (omega arith) in
    (λ i. bit_xor (bit_xor (bit_xor (first i) (second i)) (third i)) (fourth i)) ∙ spread 0 word
