use Rattle.batch_ids.specs.Statuses.{status_named}
use Rattle.base_text.proofs.Names.{named_read}
use Rattle.base_text.proofs.execution.status_named.Goals as goal

pub returns : goal.returns
returns c = named_read (status_named c.args.name.now) c.parse.result c.ok.result c.parse.ensures.value c.ok.ensures.value
