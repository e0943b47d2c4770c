use Rattle.std.proofs.Common.{◌≡◌, ℕ, List, length, refl, ap, sym, ◌∙◌, subst, arith}
use Rattle.std.specs.Prelude.{slice_set}
use Rattle.std.proofs.lemmas.List.Elements.{All-set}
use Rattle.std.proofs.lemmas.Option.{slice_get_read}
use Rattle.event_core.specs.Copies.{IsCopy, lengths, state_of}
use Rattle.event_core.specs.Worlds.{State, IsSound, IsPublishedInPart, published, step}
use Rattle.event_core.specs.declared.event.Event.TheVariants.{Publish}
use Rattle.event_core.proofs.Soundness.{sound-copy}
use Rattle.event_core.proofs.Stepping.{published_so, lengths-set, length-at, on-err}
use Rattle.event_core.proofs.world.World.publish.Goals as goal

pub invariant_of-self : goal.invariant_of-self
invariant_of-self g c =
    let s : State = state_of c.self.inside.book c.self.inside.sessions c.self.inside.copies.items in
    let new = c.take_in.new.self in
    let copy = c.in_err-take_in.ensures.copy in (
      subst (λ (l : List ℕ). IsSound record { history = s.history; sessions = s.sessions; copies = l }) (sym (lengths-set c.self.inside.copies.items c.args.copy new))
          (sound-copy s c.args.copy new.entries c.self.invariant.0 copy.within),
      All-set (IsCopy g.J.JobRepository.stands s.history) c.self.inside.copies.items c.args.copy new copy c.self.invariant.1,
      c.self.invariant.2,
    )

pub invariant_of-self-2 : goal.invariant_of-self-2
invariant_of-self-2 g c =
    let s : State = state_of c.self.inside.book c.self.inside.sessions c.self.inside.copies.items in
    let new = c.take_in.new.self in
    let copy = c.in_ok-take_in.ensures.copy in (
      subst (λ (l : List ℕ). IsSound record { history = s.history; sessions = s.sessions; copies = l }) (sym (lengths-set c.self.inside.copies.items c.args.copy new))
          (sound-copy s c.args.copy new.entries c.self.invariant.0 copy.within),
      All-set (IsCopy g.J.JobRepository.stands s.history) c.self.inside.copies.items c.args.copy new copy c.self.invariant.1,
      c.self.invariant.2,
    )

pub returns-in_err-take_in-clause-refused : goal.returns-in_err-take_in-clause-refused
returns-in_err-take_in-clause-refused g c =
    let s : State = state_of c.self.inside.book c.self.inside.sessions c.self.inside.copies.items in
    let old = c.index_mut-taker.result.now in
    let new = c.take_in.new.self in
    let there = slice_get_read c.self.inside.copies.items (length c.self.inside.copies.items) c.args.copy old refl (omega arith) c.index_mut-taker.ensures.value in
    let left : IsPublishedInPart s c.args.copy c.args.upto record { history = s.history; sessions = s.sessions; copies = lengths (slice_set c.self.inside.copies.items c.args.copy new) } =
    record {
      before = old.entries;
      there = length-at c.self.inside.copies.items c.args.copy old there;
      length = new.entries;
      from = c.in_err-take_in.ensures.from;
      to = c.in_err-take_in.ensures.to;
      same = ap (λ (l : List ℕ). record { history = s.history; sessions = s.sessions; copies = l }) (lengths-set c.self.inside.copies.items c.args.copy new);
    } in
    on-err c.from_residual.result _
    (subst (λ (v : State). IsPublishedInPart v c.args.copy c.args.upto record { history = s.history; sessions = s.sessions; copies = lengths (slice_set c.self.inside.copies.items c.args.copy new) })
    c.self.view_is left)

pub returns-clause-step : goal.returns-clause-step
returns-clause-step g c =
    let s : State = state_of c.self.inside.book c.self.inside.sessions c.self.inside.copies.items in
    let old = c.index_mut-taker.result.now in
    let new = c.take_in.new.self in
    let there = slice_get_read c.self.inside.copies.items (length c.self.inside.copies.items) c.args.copy old refl (omega arith) c.index_mut-taker.ensures.value in
    let m : c.len-2.result ≡ published s.history c.args.upto old.entries = c.len-2.ensures ∙ c.in_ok-take_in.ensures.whole in
    sym (ap (λ (v : State). step v (Publish c.args.copy c.args.upto)) c.self.view_is)
    ∙ published_so s c.args.copy c.args.upto old.entries c.len-2.result (lengths (slice_set c.self.inside.copies.items c.args.copy new))
    (length-at c.self.inside.copies.items c.args.copy old there) m
    (lengths-set c.self.inside.copies.items c.args.copy new ∙ ap (slice_set s.copies c.args.copy) (sym c.len-2.ensures))
