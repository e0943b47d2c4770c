use Rattle.std.proofs.Common.{◌≡◌, ℕ, ◌+◌, ◌-◌, length}
use Rattle.std.specs.Option.{option_or}
use Rattle.json.specs.Json.{Json, Members}
use Rattle.json.specs.Find.{BeginsWith, InMembers}
use Rattle.json_places.specs.Inside.{Found, after, member_in, member_of}
use Rattle.json_places.specs.Walk.{tokens_from, StandsAt}
use Rattle.json_places.proofs.walk.member_at.Given as goal

-- the member that is looked for is one of those that are left, or else the one that was found
abbrev pub invariant-loop-next : goal.invariant-loop-next
invariant-loop-next l =
    (j : Json) → BeginsWith (tokens_from l.at l.nodes) j → (k : ℕ) × (ms : Members) × (earlier : Found) × (l.next ≡ l.at + k) × InMembers (tokens_from l.next l.nodes) ms × StandsAt l.nodes l.at l.found earlier
    × (member_of l.name j ≡ option_or (after k (member_in l.name ms)) earlier)

abbrev pub decreases-loop-next : goal.decreases-loop-next
decreases-loop-next l = length l.nodes - l.next
