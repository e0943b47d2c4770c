-- The parts of a history that sessions have seen. Sessions are numbered from 1, and listed in the order of
-- their numbers.
use Rattle.std.specs.Prelude.{ℕ, ◌-◌, ◌==◌, ◌&&◌, max, nat_le, Bool, Option, None, List, slice_get, slice_set, if◌then◌else◌}
use Rattle.event_core.specs.declared.sessions.Seen.{Seen}

-- a new session has seen nothing
abbrev pub nothing_seen : Seen
nothing_seen = record { front = 0; least = 0 }

-- the part that a session has seen, if there is one with this number
abbrev pub seen_by : List Seen → ℕ → Option Seen
seen_by sessions who = if who == 0 then None else slice_get sessions (who - 1)

-- the sessions after one of them has seen this
abbrev pub with_seen : List Seen → ℕ → Seen → List Seen
with_seen sessions who seen = slice_set sessions (who - 1) seen

-- the part that two sessions have seen after they met: all that either had
abbrev pub joined : Seen → Seen → Seen
joined one other = record { front = max one.front other.front; least = max one.least other.least }

-- whether a session has seen at most n operations
abbrev pub has_seen_no_more : Seen → ℕ → Bool
has_seen_no_more seen n = nat_le seen.front n && nat_le seen.least n
