use Rattle.base_text.proofs.Decisions.{decided, status_decides}
use Rattle.base_text.proofs.sameness.is_same_status.Goals as goal

pub returns : goal.returns
returns c = decided _ _ c.eq.ensures (status_decides c.args.status c.args.other)
