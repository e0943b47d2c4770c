use Rattle.std.proofs.Common.{map, ap, ◌∙◌}
use Rattle.seat_rules.specs.Views.{informed, list_of}
use Rattle.sessions.proofs.Desks.{catches_up, read_is}
use Rattle.sessions.proofs.session.Session.read.Goals as goal

pub invariant_of-self : goal.invariant_of-self
invariant_of-self g c =
    let r = c.requires.copy in
    read_is _ _ _ _ _ _ r.0 _ _ c.self.invariant (c.read.ensures.session ∙ ap (λ ls. map (informed (list_of ls)) c.self.inside.seat) r.1) r.2 r.3

pub returns-clause-grows : goal.returns-clause-grows
returns-clause-grows g c =
    let r = c.requires.copy in
    let t = c.read.ensures.learnt in
    (catches_up t.0 r.0 t.1 _ _ _ _ _ _ _ _ _ _ c.self.invariant t.2 t.3 r.1 r.2 c.self.view_is c.requires.front c.requires.least c.read.ensures.session).grows

pub returns-clause-own : goal.returns-clause-own
returns-clause-own g c =
    let r = c.requires.copy in
    let t = c.read.ensures.learnt in
    (catches_up t.0 r.0 t.1 _ _ _ _ _ _ _ _ _ _ c.self.invariant t.2 t.3 r.1 r.2 c.self.view_is c.requires.front c.requires.least c.read.ensures.session).own

pub returns-clause-stops : goal.returns-clause-stops
returns-clause-stops g c =
    let r = c.requires.copy in
    let t = c.read.ensures.learnt in
    (catches_up t.0 r.0 t.1 _ _ _ _ _ _ _ _ _ _ c.self.invariant t.2 t.3 r.1 r.2 c.self.view_is c.requires.front c.requires.least c.read.ensures.session).stops
