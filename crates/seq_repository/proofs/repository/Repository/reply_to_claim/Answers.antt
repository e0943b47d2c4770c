use Rattle.std.proofs.Common.{◌≡◌, Option, Some, find, IfSome, sym, ◌∙◌, ap, subst}
use Rattle.std.specs.Option.{option_map}
use Rattle.batch_history.specs.Replies.{accepted, claim_reply, first_ready, has_something, walk_in_rows}
use Rattle.batch_history.specs.Rows.{Rows}
use Rattle.batch_history.specs.Walks.{walk_value}
use Rattle.seq_repository.specs.declared.search.Claimable.{Claimable}
use Rattle.seq_repository.specs.Kept.{Kept, rows_in}
use Rattle.seq_repository.proofs.Replying.{claim_due}
use Rattle.seq_repository.proofs.repository.Repository.reply_to_claim.Goals as goal

pub returns-in_ok-reply-in-Some : goal.returns-in_ok-reply-in-Some
returns-in_ok-reply-in-Some g c =
    let r : Rows = rows_in c.args.self.now in
    let q : Claimable = c.in-Some.field-0 in
    let found : Some q.row.now ≡ find (has_something r) r.executions =
    sym (ap (option_map (λ (x : Claimable). x.row.now)) c.in-Some.is) ∙ (c.in_ok-find_claimable.ensures.first
    ∙ ap (λ (v : Kept). find (has_something (rows_in v)) v.records.executions) c.self.view_is) in
    let first : q.key ≡ first_ready (walk_in_rows r q.row.now) =
    subst (λ (o : Option Claimable). IfSome o (λ x. x.key ≡ first_ready (walk_value c.self.inside.catalogue c.self.inside.records.works x.row.now.execution x.row.now.job x.row.now.plan))) c.in-Some.is c.in_ok-find_claimable.ensures.key
    ∙ ap (λ (v : Kept). first_ready (walk_in_rows (rows_in v) q.row.now)) c.self.view_is in
    claim_due g.row.LIMIT r q.row.now q.key c.in_ok-reply-in-Some.reply c.accept.result found first (c.in_ok-reply-in-Some.ensures ∙ ap (λ (s : Rows). claim_reply s q.row.now q.key) c.standing.ensures.rows)
    (c.accept.ensures ∙ ap (λ (v : Kept). accepted g.row.LIMIT v.count c.in_ok-reply-in-Some.reply) c.self.view_is)
