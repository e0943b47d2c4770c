use Rattle.std.proofs.Common.{◌≡◌, drop}
use Rattle.walk_rules.specs.Keys.{has_key, key_of}
use Rattle.seq_repository.proofs.steps.is_kept.Given as goal

abbrev pub invariant-loop-key : goal.invariant-loop-key
invariant-loop-key l =
    has_key (drop l.key-index l.owner.plan.kept) (key_of l.step l.partition) ≡ has_key l.owner.plan.kept (key_of l.step l.partition)
