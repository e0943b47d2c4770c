use Rattle.std.proofs.Common.{◌≡◌, ℕ, ◌≤◌, ◌++◌, List, length, drop, sym, ap, ◌∙◌}
use Rattle.std.proofs.lemmas.List.{append-nil, drop_all}
use Rattle.event_core.specs.Worlds.{State, outcomes}
use Rattle.event_core.specs.declared.event.Event.{Event}
use Rattle.event_core.specs.declared.event.Outcome.{Outcome}
use Rattle.event_core.proofs.world.outcomes_of.Goals as goal

-- once no event is left, all outcomes are told
told-all : (told : List Outcome) (s : State) (events : List Event) (i : ℕ) (all : List Outcome) → length events ≤ i → told ++ outcomes s (drop i events) ≡ all → told ≡ all
told-all told s events i all past is =
    sym (append-nil told) ∙ (ap (λ (l : List Event). told ++ outcomes s l) (sym (drop_all i events past)) ∙ is)

pub returns : goal.returns
returns g c =
    told-all c.loop-event.told.items c.loop-event.world c.args.events.now c.loop-event.event-index _ c.loop-event-test.false c.loop-event.invariant
