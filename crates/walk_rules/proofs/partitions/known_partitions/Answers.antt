use Rattle.walk_rules.specs.Walk.{fact_of}
use Rattle.walk_rules.proofs.Pushing.{partition-pushed}
use Rattle.walk_rules.proofs.partitions.known_partitions.Goals as goal

pub loop-partition-preserved : goal.loop-partition-preserved
loop-partition-preserved c =
    partition-pushed (fact_of c.args.known.now) c.args.id.now c.loop-partition.partition c.loop-partition.partitions.items c.push.new.self.items
    c.in_ok-key.key c.in_ok-fact.fact c.loop-partition.invariant c.in_ok-push.ensures.items c.in_ok-key.ensures c.in_ok-fact.ensures
