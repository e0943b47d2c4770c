use Rattle.std.proofs.Common.{ℕ, ◌∙◌, ap, find, sym}
use Rattle.batch_history.specs.Replies.{accepted, is_execution}
use Rattle.batch_history.specs.declared.call.Reply.TheVariants.{Execution as IsExecution}
use Rattle.reply_rules.specs.Standings.{rows_at}
use Rattle.reply_rules.proofs.Restarted.{granted_restart, refused_restart}
use Rattle.reply_rules.proofs.standing.Standing.reply_to_restart.Goals as goal

pub returns-in-Some : goal.returns-in-Some
returns-in-Some g c =
    sym (refused_restart g.row.LIMIT (rows_at c.args.self.now) (find (is_execution c.args.x) c.args.self.now.records.now.executions)
    c.in-Some.refusal (sym (c.in-Some.ensures c.args.self.now.count c.args.self.now.last)))

pub returns : goal.returns
returns g c =
    (c.accept.ensures ∙ ap (λ (n : ℕ). accepted g.row.LIMIT c.args.self.now.count (IsExecution n)) c.new-next.ensures) ∙ sym (granted_restart
    g.row.LIMIT (rows_at c.args.self.now) (find (is_execution c.args.x) c.args.self.now.records.now.executions)
    (sym (c.in_default.ensures c.args.self.now.count c.args.self.now.last)))
