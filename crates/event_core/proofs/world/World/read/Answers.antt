use Rattle.std.proofs.Common.{◌≡◌, ℕ, Some, IfOk, ap, sym, ◌∙◌, subst}
use Rattle.std.specs.Prelude.{slice_get}
use Rattle.batch_history.specs.Answers.{answer}
use Rattle.event_core.specs.Copies.{IsCopy, state_of}
use Rattle.event_core.specs.Seeing.{has_seen_no_more, seen_by, with_seen}
use Rattle.event_core.specs.Worlds.{State, Step, step, first}
use Rattle.event_core.specs.declared.event.Event.TheVariants.{Read}
use Rattle.event_core.proofs.Soundness.{All-at}
use Rattle.event_core.proofs.Stepping.{read_of_copy, read_as_ask, sound-left, length-at}
use Rattle.event_core.proofs.world.World.read.Goals as goal

pub returns-then-not-has_seen_no_more-clause-step : goal.returns-then-not-has_seen_no_more-clause-step
returns-then-not-has_seen_no_more-clause-step g c =
    let s : State = c.args.self.now in
    let n : ℕ = c.in-Some-copy_at.asked.now.entries in
    let is : Some c.in-Some.seen ≡ seen_by s.sessions c.args.who = c.in-Some.ensures ∙ ap (λ (v : State). seen_by v.sessions c.args.who) c.self.view_is in
    let has : Some n ≡ slice_get s.copies c.args.copy =
    sym (length-at c.self.inside.copies.items c.args.copy c.in-Some-copy_at.asked.now (sym (c.in-Some-copy_at.ensures ∙ ap (λ l. slice_get l c.args.copy) c.deref.ensures.value)))
    ∙ ap (λ (v : State). slice_get v.copies c.args.copy) c.self.view_is in
    let behind = sym (ap (has_seen_no_more c.in-Some.seen) c.len-front.ensures) ∙ (sym c.has_seen_no_more.ensures ∙ c.if-not-has_seen_no_more.true) in
    subst (λ (t : Step). IfOk c.ask.result (λ outcome. t ≡ record { outcome = outcome; after = c.ask.new.self }))
    (sym (read_as_ask s c.args.who c.args.copy c.args.query.now c.in-Some.seen n is has behind)) c.ask.ensures.step

pub invariant_of-self : goal.invariant_of-self
invariant_of-self g c =
    let s : State = state_of c.self.inside.book c.self.inside.sessions c.self.inside.copies.items in
    let asked = c.in-Some-copy_at.asked.now in
    let n : ℕ = asked.entries in
    let here = sym (c.in-Some-copy_at.ensures ∙ ap (λ l. slice_get l c.args.copy) c.deref.ensures.value) in
    let has = sym (length-at c.self.inside.copies.items c.args.copy asked here) in
    let copy = All-at (IsCopy g.J.JobRepository.stands c.self.inside.book) c.self.inside.copies.items c.args.copy asked c.self.invariant.1 here in
    let put = c.set.ensures ∙ ap (λ (n : ℕ). with_seen c.self.inside.sessions c.args.who record { front = n; least = c.in-Some.seen.least }) c.len-front.ensures in
    let enough = sym (ap (has_seen_no_more c.in-Some.seen) c.len-front.ensures) ∙ (sym c.has_seen_no_more.ensures ∙ c.if-not-has_seen_no_more.false) in
    let told = c.in_ok-answered.ensures.due (answer (first n c.self.inside.book) c.args.query.now) (c.ask-2.ensures c.self.inside.book copy) in
    let done = read_of_copy s c.args.who c.args.copy c.args.query.now c.in-Some.seen n c.in_ok-answered.answered c.set.new.self c.in-Some.ensures has enough told put in
    (sound-left s (Read c.args.who c.args.copy c.args.query.now) _ c.self.invariant.0 done, c.self.invariant.1, c.self.invariant.2)

pub returns-clause-step : goal.returns-clause-step
returns-clause-step g c =
    let s : State = state_of c.self.inside.book c.self.inside.sessions c.self.inside.copies.items in
    let asked = c.in-Some-copy_at.asked.now in
    let n : ℕ = asked.entries in
    let here = sym (c.in-Some-copy_at.ensures ∙ ap (λ l. slice_get l c.args.copy) c.deref.ensures.value) in
    let has = sym (length-at c.self.inside.copies.items c.args.copy asked here) in
    let copy = All-at (IsCopy g.J.JobRepository.stands c.self.inside.book) c.self.inside.copies.items c.args.copy asked c.self.invariant.1 here in
    let put = c.set.ensures ∙ ap (λ (n : ℕ). with_seen c.self.inside.sessions c.args.who record { front = n; least = c.in-Some.seen.least }) c.len-front.ensures in
    let enough = sym (ap (has_seen_no_more c.in-Some.seen) c.len-front.ensures) ∙ (sym c.has_seen_no_more.ensures ∙ c.if-not-has_seen_no_more.false) in
    let told = c.in_ok-answered.ensures.due (answer (first n c.self.inside.book) c.args.query.now) (c.ask-2.ensures c.self.inside.book copy) in
    let done = read_of_copy s c.args.who c.args.copy c.args.query.now c.in-Some.seen n c.in_ok-answered.answered c.set.new.self c.in-Some.ensures has enough told put in
    sym (ap (λ (v : State). step v (Read c.args.who c.args.copy c.args.query.now)) c.self.view_is) ∙ done
