use Rattle.crc32c.proofs.Fours.{four-by}
use Rattle.crc32c.proofs.check.word_of.Goals as goal

pub returns : goal.returns
returns c state = four-by state c.args.a c.args.b c.args.c c.args.d c.ranges.a.fits c.ranges.b.fits c.ranges.c.fits c.ranges.d.fits
