use Rattle.std.proofs.Common.{◌≡◌, ◌==◌, false, ap, ◌∙◌, List, arith}
use Rattle.std.proofs.lemmas.Bool.Decides.{nat_tests}
use Rattle.event_core.specs.Copies.{state_of}
use Rattle.event_core.specs.Seeing.{with_seen}
use Rattle.event_core.specs.Worlds.{State}
use Rattle.event_core.specs.declared.event.Event.TheVariants.{Meet}
use Rattle.event_core.specs.declared.sessions.Seen.{Seen}
use Rattle.event_core.proofs.Stepping.{met_so, sound-left}
use Rattle.event_core.proofs.world.World.meet.Goals as goal

pub invariant_of-self : goal.invariant_of-self
invariant_of-self g c =
    let s : State = state_of c.self.inside.book c.self.inside.sessions c.self.inside.copies.items in
    let two : (c.args.one == c.args.other) ≡ false = grind (arith, nat_tests) in
    let put = c.set-2.ensures ∙ (ap (λ (l : List Seen). with_seen l c.args.other c.joined-joined.result) c.set.ensures
    ∙ ap (λ (j : Seen). with_seen (with_seen c.self.inside.sessions c.args.one j) c.args.other j) c.joined-joined.ensures) in (
      sound-left s (Meet c.args.one c.args.other) _ c.self.invariant.0
          (met_so s c.args.one c.args.other c.in-Some.a c.in-Some-seen_by.b c.set-2.new.self two c.in-Some.ensures c.in-Some-seen_by.ensures put),
      c.self.invariant.1,
      c.self.invariant.2,
    )
