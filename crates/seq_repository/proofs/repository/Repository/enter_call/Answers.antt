use Rattle.std.proofs.Common.{◌≡◌, Ok, subst, arith}
use Rattle.batch_history.specs.Replies.{reply_by}
use Rattle.batch_history.specs.declared.call.Call.{Call}
use Rattle.seq_repository.specs.Kept.{rows_in}
use Rattle.seq_repository.proofs.Purging.{purged_there, purged_finished}
use Rattle.seq_repository.proofs.repository.Repository.enter_call.Goals as goal

pub returns-in-Finish-clause-rows : goal.returns-in-Finish-clause-rows
returns-in-Finish-clause-rows g c = rw c.in-Finish.is c.enter_finish.ensures.rows

pub returns-in-Lose-clause-rows : goal.returns-in-Lose-clause-rows
returns-in-Lose-clause-rows g c = rw c.in-Lose.is c.enter_loss.ensures.rows

pub enter_purge-requires : goal.enter_purge-requires
enter_purge-requires g c = (
  omega arith,
  (
    c.requires.room,
    (
      purged_there g.row.LIMIT (rows_in c.args.self.now) c.args.who c.in-Purge.instance c.args.reply.now
          (subst (λ (call : Call). reply_by g.row.LIMIT (rows_in c.args.self.now) c.args.who call ≡ Ok c.args.reply.now) c.in-Purge.is c.requires.due),
      purged_finished g.row.LIMIT (rows_in c.args.self.now) c.args.who c.in-Purge.instance c.args.reply.now
          (subst (λ (call : Call). reply_by g.row.LIMIT (rows_in c.args.self.now) c.args.who call ≡ Ok c.args.reply.now) c.in-Purge.is c.requires.due),
    ),
  ),
)
