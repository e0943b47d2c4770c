use Rattle.std.proofs.Common.{◌≡◌, true, drop}
use Rattle.job_plans.specs.Cursors.{known_keys}
use Rattle.walk_rules.specs.Keys.{has_key}
use Rattle.job_plans.proofs.Newest.{AreOther}
use Rattle.job_walk.proofs.cursor.search_fact.Given as goal

abbrev pub invariant-loop-place : goal.invariant-loop-place
invariant-loop-place l =
    (has_key (known_keys (drop l.place l.known.items)) l.key ≡ true) × AreOther l.known.items l.key l.place × (l.known ≡ l.fn.known)
