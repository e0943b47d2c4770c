-- A repository that is being restored from rows.
use Rattle.std.specs.Prelude.{ℕ, ◌≡◌}
use Rattle.batch_ids.specs.declared.metrics.Metrics.{Metrics}
use Rattle.batch_history.specs.Works.{AllApart}
use Rattle.batch_history.specs.declared.rows.LastNumbers.{LastNumbers}
use Rattle.records.specs.Maps.{AreRising, execution_numbers}
use Rattle.row_repository.specs.Restoring.{last_in, sums_of}
use Rattle.seq_repository.specs.Kept.{Kept, AreLast, IsSound, rows_in}

-- its invariant. It keeps the numbers of the last rows, and the sums of the metrics. All else it keeps as a
-- repository does, but for what the rows show of their walks.
pub record IsRestored (limit : ℕ) (newest : LastNumbers) (sums : Metrics) (kept : Kept) : Type 0 where
  pub sound : IsSound limit kept
  pub rising : AreRising (execution_numbers kept.records.executions)
  pub apart : AllApart kept.records.works
  pub newest_is : newest ≡ last_in (rows_in kept)
  pub below : AreLast newest kept.records
  pub sums_are : sums ≡ sums_of kept.records.works
