use Rattle.std.proofs.Common.{◌∙◌, ◌-◌, ℕ, length, take, drop, ap}
use Rattle.crc32c.specs.Check.{after_bytes}
use Rattle.crc32c.proofs.Fours.{split-four}
use Rattle.crc32c.proofs.check.after_four.Goals as goal

pub returns-in-len4-up : goal.returns-in-len4-up
returns-in-len4-up c =
    let bytes = c.args.bytes.now in
    ap (λ (s : ℕ). after_bytes s (take (length bytes - 4) (drop 4 bytes))) (c.after_32.ensures ∙ c.word_of.ensures c.args.state)
    ∙ ap (after_bytes c.args.state) (split-four bytes c.in-len4-up.len_at_least)
