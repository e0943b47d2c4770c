use Rattle.std.proofs.Common.{◌≡◌, ◌%◌, ◌/◌, ap, ◌∙◌, rules}
use Rattle.std.specs.Prelude.{bit_xor}
use Rattle.crc32c.proofs.Tables.{at-8}
use Rattle.crc32c.proofs.Linear.{byte-by, low-small}
use Rattle.crc32c.proofs.check.after_byte.Goals as goal

pub returns : goal.returns
returns c =
    let low : c.from.result ≡ bit_xor (c.args.state % 256) c.args.byte = search rules in
    let less = low-small c.args.state c.args.byte c.from.result c.ranges.byte.fits low in
    ap (bit_xor (c.args.state / 256)) (at-8 c.from.result less) ∙ byte-by c.args.state c.args.byte c.from.result c.ranges.byte.fits low
