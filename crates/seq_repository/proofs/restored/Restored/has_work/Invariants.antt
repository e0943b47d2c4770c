use Rattle.std.proofs.Common.{◌≡◌}
use Rattle.std.specs.List.{list_any}
use Rattle.batch_history.specs.Works.{work_key}
use Rattle.records.specs.Left.{works_left, works_of}
use Rattle.walk_rules.specs.Keys.{is_same_key}
use Rattle.seq_repository.proofs.restored.Restored.has_work.Given as goal

abbrev pub invariant-loop-other : goal.invariant-loop-other
invariant-loop-other g l =
    list_any (λ other. is_same_key (work_key other) (work_key l.row)) (works_left l.other-iterator)
    ≡ list_any (λ other. is_same_key (work_key other) (work_key l.row)) (works_of l.row.execution l.self.records.works)
