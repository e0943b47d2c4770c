use Rattle.std.proofs.Common.{◌∙◌, ap}
use Rattle.crc32c.specs.Check.{check_after, inverted}
use Rattle.crc32c.proofs.check.check_after.Goals as goal

pub returns : goal.returns
unfolding check_after
returns c = ap inverted (c.after_each.ensures ∙ c.after_four-by_four.ensures ∙ c.after_eights-by_eights.ensures)
