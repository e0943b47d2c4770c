use Rattle.durable_log.proofs.Digits.{digit-at}
use Rattle.durable_log.proofs.columns.digit.Goals as goal

pub returns : goal.returns
returns c = digit-at c.args.d c.requires
