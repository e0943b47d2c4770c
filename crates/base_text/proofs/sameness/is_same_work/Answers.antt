use Rattle.base_text.proofs.Decisions.{decided, work_decides}
use Rattle.base_text.proofs.sameness.is_same_work.Goals as goal

pub returns : goal.returns
returns c = decided _ _ c.eq.ensures (work_decides c.args.work.now c.args.other.now)
