use Rattle.std.proofs.Common.{◌≡◌, Ok, Err, subst, false, sym, ◌∙◌, ap, List, [], ◌∷◌, ◌++◌}
use Rattle.op_log.proofs.Growing.{log_grown}
use Rattle.batch_history.specs.Replies.{is_nothing, reply}
use Rattle.batch_history.specs.Legal.{grown}
use Rattle.batch_history.specs.Rows.{History}
use Rattle.batch_history.specs.declared.call.Entry.{Entry}
use Rattle.op_log.proofs.book.Book.act.Goals as goal

pub invariant_of-self-else-is_nothing : goal.invariant_of-self-else-is_nothing
invariant_of-self-else-is_nothing g c =
    let h : History = record { catalogue = g.J.JobRepository.jobs c.self.inside.repository; log = c.self.inside.log.items } in
    let e : Entry = record { who = c.args.who; call = c.args.call; at = c.args.at; reply = c.in-Ok.reply } in
    let entered : is_nothing e.reply ≡ false = sym c.is_nothing.ensures ∙ c.if-is_nothing.false in
    let grows = c.in-Ok.ensures.entered entered h c.self.invariant.1 c.self.invariant.0 in
    log_grown g.J.JobRepository.limit (g.J.JobRepository.stands c.enter_due.new.repository) (g.J.JobRepository.jobs c.enter_due.new.repository) h e c.push_reserved.new.self.items c.self.invariant.1
    (c.in-Ok.ensures.due h c.self.invariant.0) entered grows
    (g.met.J.JobRepository.over c.enter_due.new.repository (grown h e) grows)
    (c.push_reserved.ensures.items
    ∙ (ap (λ (l : List Entry). l ++ c.enter_due.new.entry ∷ []) c.in-Ok.ensures.log
    ∙ ap (λ (x : Entry). h.log ++ x ∷ []) (c.in-Ok.ensures.replied entered)))

pub returns-after-is_nothing-clause-reply : goal.returns-after-is_nothing-clause-reply
returns-after-is_nothing-clause-reply g c =
    let h : History = record { catalogue = g.J.JobRepository.jobs c.self.inside.repository; log = c.self.inside.log.items } in
    subst (λ (v : History). reply g.J.JobRepository.limit v c.args.who c.args.call ≡ Ok c.in-Ok.reply) c.self.view_is (c.in-Ok.ensures.due h c.self.invariant.0)

pub returns-in-Err-clause-reply : goal.returns-in-Err-clause-reply
returns-in-Err-clause-reply g c known =
    let h : History = record { catalogue = g.J.JobRepository.jobs c.self.inside.repository; log = c.self.inside.log.items } in
    subst (λ (v : History). reply g.J.JobRepository.limit v c.args.who c.args.call ≡ Err c.in-Err.refusal) c.self.view_is (c.in-Err.ensures.due h c.self.invariant.0 known)
