-- The invariant of a catalogue's jobs.
use Rattle.std.specs.Prelude.{◌≤◌, ◌≢◌, List, length, All, AllPairs}
use Rattle.jsl_model.specs.Jobs.{JobTree}
use Rattle.jsl_model.specs.Faults.{IsChecked}

-- a catalogue's jobs: at most 256, each checked, no two with the same id
pub record AreJobs (jobs : List JobTree) : Type 0 where
  pub few : length jobs ≤ 256
  pub checked : All IsChecked jobs
  pub distinct : AllPairs (λ one other. one.id ≢ other.id) jobs
