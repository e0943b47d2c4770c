-- The rows without those of a removed job instance.
use Rattle.std.specs.Prelude.{ℕ, ◌==◌}
use Rattle.batch_history.specs.Rows.{instances_there, executions_there, works_there}
pub use Rattle.record_lists.specs.Places.{checkpoints_there}
use Rattle.records.specs.Maps.{Maps}

-- the rows without a job instance, its job executions, their work items and its checkpoints; all other rows
-- are unchanged
abbrev pub without_instance : ℕ → Maps → Maps
without_instance i maps =
    record {
      instances = instances_there (λ j. j == i) maps.instances;
      executions = executions_there (λ j. j == i) maps.executions;
      works = works_there (λ j. j == i) maps.executions maps.works;
      checkpoints = checkpoints_there (λ j. j == i) maps.checkpoints;
    }
