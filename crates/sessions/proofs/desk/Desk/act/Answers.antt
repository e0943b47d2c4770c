use Rattle.std.proofs.Common.{refl, ◌≡◌, ◌≤◌, false, [], ◌∷◌, ◌++◌, ℕ, List, length, length-append, ap, sym, subst, ◌∙◌, arith}
use Rattle.batch_history.specs.Due.{IsDue}
use Rattle.batch_history.specs.Replies.{is_nothing, reply}
use Rattle.batch_history.specs.Rows.{History, history}
use Rattle.batch_history.specs.declared.call.Entry.{Entry}
use Rattle.jsl_model.specs.Jobs.{JobTree}
use Rattle.seat_rules.proofs.Appending.{entries_more}
use Rattle.seat_rules.specs.Places.{IsLegalLog, Known}
use Rattle.batch_history.specs.Legal.{entries_by}
use Rattle.seat_rules.specs.Views.{Each, HasStop}
use Rattle.seat_rules.specs.declared.view.SessionView.{SessionView}
use Rattle.sessions.proofs.Calls.{book_after, entered_is, log_after, seat_after}
use Rattle.sessions.proofs.Desks.{alone, few, still_stopped}
use Rattle.sessions.specs.Answered.{operation}
use Rattle.sessions.specs.Sessions.{DeskState, one_of}
use Rattle.sessions.proofs.desk.Desk.act.Goals as goal

pub append_last-requires : goal.append_last-requires
append_last-requires g c =
    let s = c.session.invariant in
    let e = operation c.session.inside.number c.args.call c.args.at c.in-Ok.reply in
    let n : is_nothing c.in-Ok.reply ≡ false = sym c.is_nothing.ensures ∙ c.if-is_nothing.false in
    let new = book_after c.self.inside.book c.act-result.new.self _ _ _ _ _ c.act-result.ensures.after c.in-Ok.is n in
    let log = log_after c.self.inside.book c.act-result.new.self c.self.inside.seat c.host.new.self _ _ e new c.self.invariant.seat_is c.host.ensures.book in
    let over = ap (λ (h : History). h.catalogue) new ∙ c.self.invariant.catalogue_is in
    record {
      table = c.requires.table;
      last = (e, one_of c.session.inside.seat, log, ap (λ (k : Known). k.sessions) c.host.ensures.book ∙ s.one, sym s.number_is);
      legal = subst (λ (x : List JobTree). IsLegalLog x c.act-result.new.self.log) over c.length_of-front.ensures.legal;
    }

pub overflow_add-session : goal.overflow_add-session
overflow_add-session g c =
    let k = c.self.inside.seat in
    let log : k.log ≡ c.self.inside.book.log = ap (λ (x : Known). x.log) c.self.invariant.seat_is in
    let few' : c.session.inside.accepted ≤ length k.log = few k.log k.last _ _ _ _ _ _ c.session.invariant c.host.ensures.learnt in
    let n : is_nothing c.in-Ok.reply ≡ false = sym c.is_nothing.ensures ∙ c.if-is_nothing.false in
    let new = book_after c.self.inside.book c.act-result.new.self _ _ _ _ _ c.act-result.ensures.after c.in-Ok.is n in
    let long = ap (λ (h : History). length h.log) new ∙ length-append c.self.inside.book.log _ in
    let within : length c.act-result.new.self.log ≤ 1000000 = c.length_of-front.ensures.legal.within in
    let same : length k.log ≡ length c.self.inside.book.log = ap length log in
    omega (arith, long)

pub invariant_of-session-else-is_nothing : goal.invariant_of-session-else-is_nothing
invariant_of-session-else-is_nothing g c =
    let s = c.session.invariant in
    let k = c.self.inside.seat in
    let e = operation c.session.inside.number c.args.call c.args.at c.in-Ok.reply in
    let n : is_nothing c.in-Ok.reply ≡ false = sym c.is_nothing.ensures ∙ c.if-is_nothing.false in
    let new = book_after c.self.inside.book c.act-result.new.self _ _ _ _ _ c.act-result.ensures.after c.in-Ok.is n in
    let log = log_after c.self.inside.book c.act-result.new.self k c.host.new.self _ _ e new c.self.invariant.seat_is c.host.ensures.book in
    let other = seat_after k c.host.new.self c.append_last.new.seat c.session.inside.seat _ e c.host.ensures.book s.one (c.append_last.ensures e log) c.part-else-is_nothing.ensures.session in
    let over = ap (λ (h : History). h.catalogue) new ∙ c.self.invariant.catalogue_is in
    entered_is _ _ _ _ _ _ _ _ (k.log ++ e ∷ []) _ e s other (log ∙ ap (λ (x : Known). x.log ++ e ∷ []) c.host.ensures.book) c.length_of-front.ensures.length
    (subst (λ (x : List JobTree). IsLegalLog x c.act-result.new.self.log) over c.length_of-front.ensures.legal)

pub returns-else-is_nothing-clause-own : goal.returns-else-is_nothing-clause-own
returns-else-is_nothing-clause-own g c =
    let s = c.session.invariant in
    let k = c.self.inside.seat in
    let one = one_of c.session.inside.seat in
    let e = operation c.session.inside.number c.args.call c.args.at c.in-Ok.reply in
    let n : is_nothing c.in-Ok.reply ≡ false = sym c.is_nothing.ensures ∙ c.if-is_nothing.false in
    let new = book_after c.self.inside.book c.act-result.new.self _ _ _ _ _ c.act-result.ensures.after c.in-Ok.is n in
    let log = log_after c.self.inside.book c.act-result.new.self k c.host.new.self _ _ e new c.self.invariant.seat_is c.host.ensures.book in
    let other = seat_after k c.host.new.self c.append_last.new.seat c.session.inside.seat _ e c.host.ensures.book s.one (c.append_last.ensures e log) c.part-else-is_nothing.ensures.session in
    let mine = (alone k.log k.last _ _ _ _ _ _ s c.host.ensures.learnt).mine in
    subst (λ (x : SessionView). entries_by x.number x.seen ≡ x.mine) (sym (ap one_of other)) (entries_more one.number k.log e one.mine (sym s.number_is) mine)

pub returns-else-is_nothing-clause-stops : goal.returns-else-is_nothing-clause-stops
returns-else-is_nothing-clause-stops g c =
    let s = c.session.invariant in
    let k = c.self.inside.seat in
    let e = operation c.session.inside.number c.args.call c.args.at c.in-Ok.reply in
    let n : is_nothing c.in-Ok.reply ≡ false = sym c.is_nothing.ensures ∙ c.if-is_nothing.false in
    let new = book_after c.self.inside.book c.act-result.new.self _ _ _ _ _ c.act-result.ensures.after c.in-Ok.is n in
    let log = log_after c.self.inside.book c.act-result.new.self k c.host.new.self _ _ e new c.self.invariant.seat_is c.host.ensures.book in
    let other = seat_after k c.host.new.self c.append_last.new.seat c.session.inside.seat _ e c.host.ensures.book s.one (c.append_last.ensures e log) c.part-else-is_nothing.ensures.session in
    let seen = ap (λ (xs : List SessionView). (one_of xs).seen) other in
    let stopped = still_stopped k.log (k.log ++ e ∷ []) k.last _ _ _ _ _ _ s c.host.ensures.learnt (e ∷ [], refl) in
    subst (λ (x : SessionView × List Entry). Each (HasStop x.1 x.0.least) x.0.stops) (λ i. (c.session.view_is i, sym seen i)) stopped

pub returns-in-Err-clause-reply : goal.returns-in-Err-clause-reply
returns-in-Err-clause-reply g c =
    let number = c.session.invariant.number_is ∙ ap (λ (s : SessionView). s.number) c.session.view_is in
    let log = ap (λ (d : DeskState). d.log) c.self.view_is in
    subst (λ (x : History × ℕ). IsDue c.act-result.result (reply g.J.JobRepository.limit x.0 x.1 c.args.call))
    (λ i. (history (c.self.invariant.catalogue_is i) (log i), number i)) c.act-result.ensures.reply

pub returns-then-is_nothing-clause-reply : goal.returns-then-is_nothing-clause-reply
returns-then-is_nothing-clause-reply g c =
    let number = c.session.invariant.number_is ∙ ap (λ (s : SessionView). s.number) c.session.view_is in
    let log = ap (λ (d : DeskState). d.log) c.self.view_is in
    subst (λ (x : History × ℕ). IsDue c.act-result.result (reply g.J.JobRepository.limit x.0 x.1 c.args.call))
    (λ i. (history (c.self.invariant.catalogue_is i) (log i), number i)) c.act-result.ensures.reply

pub returns-else-is_nothing-clause-reply : goal.returns-else-is_nothing-clause-reply
returns-else-is_nothing-clause-reply g c =
    let number = c.session.invariant.number_is ∙ ap (λ (s : SessionView). s.number) c.session.view_is in
    let log = ap (λ (d : DeskState). d.log) c.self.view_is in
    subst (λ (x : History × ℕ). IsDue c.act-result.result (reply g.J.JobRepository.limit x.0 x.1 c.args.call))
    (λ i. (history (c.self.invariant.catalogue_is i) (log i), number i)) c.act-result.ensures.reply
