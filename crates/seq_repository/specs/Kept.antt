-- The state of a repository, and the histories that it represents.
use Rattle.std.specs.Prelude.{ℕ, ◌≡◌, ◌≤◌, ◌+◌, List}
use Rattle.std.specs.BTreeMap.{BTreeMap}
use Rattle.batch_ids.specs.Metrics.{most_after}
use Rattle.jsl_model.specs.Jobs.{JobTree}
use Rattle.batch_history.specs.Works.{AllApart}
use Rattle.batch_history.specs.Legal.{IsLegal, grown, most_numbered}
use Rattle.batch_history.specs.Rows.{History, Rows, rows}
use Rattle.batch_history.specs.declared.call.Entry.{Entry}
use Rattle.batch_history.specs.declared.rows.LastNumbers.{LastNumbers}
use Rattle.records.specs.Maps.{Maps, AreBelow, AreRising, instance_numbers, execution_numbers, work_numbers}
use Rattle.restart_rules.specs.Placed.{ArePlaced}
use Rattle.restart_rules.specs.Restarting.{rows_over}
use Rattle.seq_repository.specs.Agendas.{agenda_of}
use Rattle.seq_repository.specs.Following.{AreFollowed, AreOfUnfinished, kept_at}
use Rattle.seq_repository.specs.Metered.{AreWithin}
use Rattle.row_repository.specs.Settled.{AreSettled}
use Rattle.seq_repository.specs.declared.cursors.Slot.{Slot}

-- the state of a repository: a catalogue, the number of accepted operations, the last numbers that were given
-- to a job instance, a job execution and a work item, and the rows
pub record Kept : Type 0 where
  pub catalogue : List JobTree
  pub count : ℕ
  pub last : LastNumbers
  pub records : Maps

-- the rows of a state
abbrev pub rows_in : Kept → Rows
rows_in kept = rows_over kept.catalogue kept.count kept.last kept.records

-- no row has a number greater than the last that was given
pub record AreLast (last : LastNumbers) (maps : Maps) : Type 0 where
  pub instance : AreBelow (last.instance + 1) (instance_numbers maps.instances)
  pub execution : AreBelow (last.execution + 1) (execution_numbers maps.executions)
  pub work : AreBelow (last.work + 1) (work_numbers maps.works)

-- the invariant of a repository of at most `limit` operations. An operation gives at most one number of each
-- kind. The counts of work items fit. Each walk begins at an element of its job's own list.
pub record IsSound (limit : ℕ) (kept : Kept) : Type 0 where
  pub few : limit ≤ most_numbered
  pub room : kept.count ≤ limit
  pub last : AreLast kept.last kept.records
  pub instance : kept.last.instance ≤ kept.count
  pub execution : kept.last.execution ≤ kept.count
  pub work : kept.last.work ≤ kept.count
  pub metrics : AreWithin (most_after kept.count) kept.records.works
  pub placed : ArePlaced kept.catalogue kept.records.executions

-- its further invariant. The numbers of job executions rise. No two work items of a job execution have the
-- same work key. The agenda has the numbers of the job executions that have something to do. Each cursor
-- follows the walk of an unfinished job execution. Only unfinished ones have slots. Each row shows what its
-- walk comes to.
pub record IsRepository (limit : ℕ) (numbers : List ℕ) (cursors : BTreeMap ℕ Slot) (kept : Kept) : Type 0 where
  pub sound : IsSound limit kept
  pub rising : AreRising (execution_numbers kept.records.executions)
  pub apart : AllApart kept.records.works
  pub agenda : numbers ≡ agenda_of kept.catalogue kept.records.works kept.records.executions
  pub followed : AreFollowed kept.catalogue kept.records.works kept.records.executions (kept_at cursors)
  pub slots : AreOfUnfinished kept.records.executions cursors
  pub settled : AreSettled kept.catalogue kept.records.works kept.records.executions

-- a repository represents a history if its rows are the history's
abbrev pub StandsFor : Kept → History → Type 0
StandsFor kept h = rows_in kept ≡ rows h

-- an entry is the next operation in this state: some history that the state represents is legal with it too
pub record IsNext (limit : ℕ) (kept : Kept) (e : Entry) : Type 0 where
  pub history : History
  pub stands : StandsFor kept history
  pub legal : IsLegal limit (grown history e)
