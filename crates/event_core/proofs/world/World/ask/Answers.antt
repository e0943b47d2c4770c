use Rattle.std.proofs.Common.{ℕ, ap, sym, ◌∙◌}
use Rattle.batch_history.specs.Answers.{answer}
use Rattle.event_core.specs.Copies.{state_of}
use Rattle.event_core.specs.Seeing.{with_seen}
use Rattle.event_core.specs.Worlds.{State, step}
use Rattle.event_core.specs.declared.event.Event.TheVariants.{Ask}
use Rattle.event_core.proofs.Stepping.{asked}
use Rattle.event_core.proofs.world.World.ask.Goals as goal

pub returns-clause-step : goal.returns-clause-step
returns-clause-step g c =
    let s : State = state_of c.self.inside.book c.self.inside.sessions c.self.inside.copies.items in
    let put = c.set.ensures ∙ ap (λ (n : ℕ). with_seen c.self.inside.sessions c.args.who record { front = n; least = c.in-Some.seen.least }) c.len-front.ensures.length in
    let told = c.in_ok-answered.ensures.due (answer s.history c.args.query.now) c.ask.ensures in
    let done = asked s c.args.who c.args.query.now c.in-Some.seen c.in_ok-answered.answered c.set.new.self c.in-Some.ensures told put in
    sym (ap (λ (v : State). step v (Ask c.args.who c.args.query.now)) c.self.view_is) ∙ done
