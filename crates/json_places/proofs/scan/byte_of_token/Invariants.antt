use Rattle.std.proofs.Common.{◌≡◌, ◌+◌, take}
use Rattle.json.specs.Lex.{between}
use Rattle.json_places.specs.Scan.{mode_of, mode_after}
use Rattle.json_places.specs.Starts.{tokens_before}
use Rattle.json_places.proofs.scan.byte_of_token.Given as goal

-- the tokens that began, and those that are left, are all up to the one that is looked for
abbrev pub invariant-loop-at : goal.invariant-loop-at
invariant-loop-at l = (tokens_before l.at l.text + l.left ≡ l.number) × (mode_of l.mode ≡ mode_after between (take l.at l.text))
