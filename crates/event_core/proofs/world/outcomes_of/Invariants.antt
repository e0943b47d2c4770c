use Rattle.std.proofs.Common.{◌≡◌, ◌++◌, drop}
use Rattle.event_core.specs.Worlds.{outcomes}
use Rattle.event_core.proofs.world.outcomes_of.Given as goal

abbrev pub invariant-loop-event : goal.invariant-loop-event
invariant-loop-event g l =
    l.told.items ++ outcomes l.world (drop l.event-index l.events) ≡ outcomes l.fn.world l.events
