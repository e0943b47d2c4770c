use Rattle.std.proofs.lemmas.Result.{on_ok_weaker}
use Rattle.batch_history.specs.Replies.{reply_by}
use Rattle.script_engine.proofs.Applying.{applied}
use Rattle.script_engine.proofs.answer.act.Goals as goal

pub returns-clause-after : goal.returns-clause-after
returns-clause-after g c =
    let limit = g.J.RowRepository.limit in
    let old = g.J.RowRepository.rows c.args.repository.now in
    on_ok_weaker c.reply_line-answered.result
    (λ is. applied g.J.RowRepository.rows limit c.args.repository.now c.apply-reply.new.self c.args.by c.args.call c.args.at c.apply-reply.result is c.apply-reply.ensures.after c.apply-reply.ensures.refused)
    (c.reply_line-answered.ensures.due (reply_by limit old c.args.by c.args.call) c.apply-reply.ensures.due)
