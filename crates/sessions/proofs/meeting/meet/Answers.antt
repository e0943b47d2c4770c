use Rattle.std.proofs.Common.{◌≢◌, subst}
use Rattle.seat_rules.specs.declared.view.SessionView.{SessionView}
use Rattle.sessions.proofs.Desks.{have_met}
use Rattle.sessions.specs.Sessions.{Meets, one_of}
use Rattle.sessions.proofs.meeting.meet.Goals as goal

pub returns-clause-one : goal.returns-clause-one
returns-clause-one g c =
    let h = c.host.ensures in
    let m = have_met h.learnt.0 h.learnt.1 c.one.inside.seat c.other.inside.seat c.host.new.self _ _ c.one.invariant.one c.other.invariant.one h.both h.learnt.2 h.apart c.part.ensures.one c.part.ensures.other in
    subst (λ (x : SessionView × SessionView). Meets x.0 x.1 (one_of c.part.new.self)) (λ i. (c.one.view_is i, c.other.view_is i)) m.one_meets

pub returns-clause-other : goal.returns-clause-other
returns-clause-other g c =
    let h = c.host.ensures in
    let m = have_met h.learnt.0 h.learnt.1 c.one.inside.seat c.other.inside.seat c.host.new.self _ _ c.one.invariant.one c.other.invariant.one h.both h.learnt.2 h.apart c.part.ensures.one c.part.ensures.other in
    subst (λ (x : SessionView × SessionView). Meets x.0 x.1 (one_of c.part.new.other)) (λ i. (c.other.view_is i, c.one.view_is i)) m.other_meets

pub returns-clause-same : goal.returns-clause-same
returns-clause-same g c =
    let h = c.host.ensures in
    let m = have_met h.learnt.0 h.learnt.1 c.one.inside.seat c.other.inside.seat c.host.new.self _ _ c.one.invariant.one c.other.invariant.one h.both h.learnt.2 h.apart c.part.ensures.one c.part.ensures.other in
    m.same

pub returns-clause-apart : goal.returns-clause-apart
returns-clause-apart g c =
    let h = c.host.ensures in
    let m = have_met h.learnt.0 h.learnt.1 c.one.inside.seat c.other.inside.seat c.host.new.self _ _ c.one.invariant.one c.other.invariant.one h.both h.learnt.2 h.apart c.part.ensures.one c.part.ensures.other in
    subst (λ (x : SessionView × SessionView). x.0.number ≢ x.1.number) (λ i. (c.one.view_is i, c.other.view_is i)) m.apart
