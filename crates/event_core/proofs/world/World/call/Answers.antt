use Rattle.std.proofs.Common.{ℕ, ap, sym, ◌∙◌, subst}
use Rattle.event_core.specs.Copies.{state_of}
use Rattle.event_core.specs.Headline.{Continues}
use Rattle.event_core.specs.Seeing.{with_seen}
use Rattle.event_core.specs.Worlds.{State, step}
use Rattle.event_core.specs.declared.event.Event.TheVariants.{Call as Calls}
use Rattle.event_core.proofs.Copying.{copies-stay}
use Rattle.event_core.proofs.Soundness.{continues-after}
use Rattle.event_core.proofs.Stepping.{called, sound-left}
use Rattle.event_core.proofs.world.World.call.Goals as goal

pub invariant_of-self-2 : goal.invariant_of-self-2
invariant_of-self-2 g c =
    let s : State = state_of c.self.inside.book c.self.inside.sessions c.self.inside.copies.items in
    let put = c.set.ensures ∙ ap (λ (n : ℕ). with_seen c.self.inside.sessions c.args.who record { front = n; least = c.in-Some.seen.least }) c.len-front.ensures.length in
    let done = called s c.args.who c.args.call.now c.args.at c.in-Some.seen c.in_ok-replied.replied c.act.new.book c.set.new.self
    c.in-Some.ensures c.in_ok-replied.ensures.reply c.in_ok-replied.ensures.after put in
    let more = subst (Continues c.self.inside.book) (sym c.in_ok-replied.ensures.after)
    (continues-after c.self.inside.book c.args.who c.args.call.now c.args.at c.in_ok-replied.replied) in (
      sound-left s (Calls c.args.who c.args.call.now c.args.at) _ c.self.invariant.0 done,
      copies-stay g.J.JobRepository.stands c.self.inside.book c.act.new.book c.self.inside.copies.items more c.self.invariant.1,
      c.self.invariant.2,
    )

pub returns-clause-step : goal.returns-clause-step
returns-clause-step g c =
    let s : State = state_of c.self.inside.book c.self.inside.sessions c.self.inside.copies.items in
    let put = c.set.ensures ∙ ap (λ (n : ℕ). with_seen c.self.inside.sessions c.args.who record { front = n; least = c.in-Some.seen.least }) c.len-front.ensures.length in
    let done = called s c.args.who c.args.call.now c.args.at c.in-Some.seen c.in_ok-replied.replied c.act.new.book c.set.new.self
    c.in-Some.ensures c.in_ok-replied.ensures.reply c.in_ok-replied.ensures.after put in
    sym (ap (λ (v : State). step v (Calls c.args.who c.args.call.now c.args.at)) c.self.view_is) ∙ done
