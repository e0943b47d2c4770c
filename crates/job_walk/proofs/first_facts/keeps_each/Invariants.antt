use Rattle.std.proofs.Common.{◌≡◌, ◌-◌, ◌≤◌, Some, map}
use Rattle.std.specs.List.{list_all, range_with_len}
use Rattle.walk_rules.specs.Keys.{key_of}
use Rattle.job_plans.specs.Plans.{keeps_partition}
use Rattle.job_walk.proofs.first_facts.keeps_each.Given as goal

abbrev pub invariant-loop-partition : goal.invariant-loop-partition
invariant-loop-partition l =
    (l.partition ≤ l.count)
    × (list_all (keeps_partition l.plan (Some l.count)) (map (key_of l.id) (range_with_len l.partition (l.count - l.partition)))
    ≡ list_all (keeps_partition l.plan (Some l.count)) (map (key_of l.id) (range_with_len 0 l.count)))
