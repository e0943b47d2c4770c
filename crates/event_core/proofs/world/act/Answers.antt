use Rattle.std.proofs.Common.{◌≡◌, ℕ, IfOk, subst}
use Rattle.batch_history.specs.Due.{IsDue}
use Rattle.batch_history.specs.Replies.{reply}
use Rattle.batch_history.specs.declared.call.Call.{Call}
use Rattle.event_core.proofs.world.act.Goals as goal

pub returns-clause-reply : goal.returns-clause-reply
returns-clause-reply g c =
    let limit : ℕ = g.J.JobRepository.limit in
    let due = subst (λ (call : Call). IsDue c.act.result (reply limit c.args.book.now c.args.who call)) c.in_ok-try_clone.ensures c.act.ensures.reply in
    let told = c.told.ensures.due (reply limit c.args.book.now c.args.who c.args.call.now) due in
    subst (λ (limit : ℕ). IfOk c.told.result (λ given. given ≡ reply limit c.args.book.now c.args.who c.args.call.now)) c.requires.limit told
