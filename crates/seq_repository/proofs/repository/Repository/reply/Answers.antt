use Rattle.std.proofs.Common.{arith}
use Rattle.restart_rules.proofs.Placing.{placed_at}
use Rattle.seq_repository.proofs.repository.Repository.reply.Goals as goal

pub reply_to_restart-requires : goal.reply_to_restart-requires
reply_to_restart-requires g c = (
  omega arith,
  (
    placed_at c.standing-standing.result.catalogue.now c.standing-standing.result.records.now.executions c.in-Restart.execution c.standing-standing.ensures.placed,
    c.standing-standing.ensures.executions,
  ),
)
