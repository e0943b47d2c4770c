use Rattle.std.proofs.Common.{◌≡◌, ◌-◌, length, map, drop, string_bytes}
use Rattle.job_threads.specs.Meaning.{place_from}
use Rattle.job_threads.proofs.kit.find_name.Given as goal

abbrev pub invariant-loop-at : goal.invariant-loop-at
invariant-loop-at g l = place_from l.at l.name (drop l.at (map (λ e. string_bytes e.name) l.all)) ≡ place_from 0 l.name (map (λ e. string_bytes e.name) l.all)

abbrev pub decreases-loop-at : goal.decreases-loop-at
decreases-loop-at g l = length l.all - l.at
