use Rattle.durable_log.proofs.Digits.{found, missing}
use Rattle.durable_log.proofs.columns.value.Goals as goal

pub returns-then-found-lt-NO_DIGIT-clause-value : goal.returns-then-found-lt-NO_DIGIT-clause-value
returns-then-found-lt-NO_DIGIT-clause-value c = found c.args.b c.from.result c.from-then-found-lt-NO_DIGIT.result c.ranges.b.fits c.from.ensures c.from-then-found-lt-NO_DIGIT.ensures c.if-found-lt-NO_DIGIT.true

pub returns-else-found-lt-NO_DIGIT-clause-value : goal.returns-else-found-lt-NO_DIGIT-clause-value
returns-else-found-lt-NO_DIGIT-clause-value c = missing c.args.b c.from.result c.ranges.b.fits c.from.ensures c.if-found-lt-NO_DIGIT.false
