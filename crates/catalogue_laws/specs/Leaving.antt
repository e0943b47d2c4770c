-- A catalogue without the jobs that no row names.
use Rattle.std.specs.Prelude.{ℕ, ◌≡◌, ◌<◌, Bool, true, is_some, List, ◌++◌, length, map, replicate, if◌then◌else◌}
use Rattle.std.specs.List.{list_any}
use Rattle.std.specs.Str.{bytes_eq}
use Rattle.jsl_model.specs.Jobs.{JobTree}
use Rattle.batch_history.specs.Lists.{Each}
use Rattle.batch_history.specs.declared.call.Call.{Call}
use Rattle.batch_history.specs.declared.call.Call.TheVariants.{Start, Restart, Stop, Abandon, Claim, Checkpoint, Finish, Lose, Purge}
use Rattle.batch_history.specs.Legal.{IsLegal}
use Rattle.batch_history.specs.Rows.{History, Rows, rows}
use Rattle.batch_history.specs.Walks.{job_named}

-- no text that names a job has so many bytes
abbrev pub hidden_bytes : ℕ
hidden_bytes = 257

-- the name of a job that no line can name: it is too long for that
abbrev pub hidden_name : List ℕ → List ℕ
hidden_name name = replicate hidden_bytes 0 ++ name

-- a job under such a name
abbrev pub job_hidden : JobTree → JobTree
job_hidden job = record job { id = hidden_name job.id }

-- each job of a catalogue has an id that a line can name
abbrev pub AreShort : List JobTree → Type 0
AreShort catalogue = Each (λ job. length job.id < hidden_bytes) catalogue

-- whether a row is of a job of this name: each job instance has a job execution
abbrev pub is_used : Rows → List ℕ → Bool
is_used r name = list_any (λ row. bytes_eq row.job name) r.executions

-- the name that a job has in the past of these rows: its own, if one of them names it
abbrev pub name_in_past : Rows → List ℕ → List ℕ
name_in_past r name = if is_used r name then name else hidden_name name

-- A CATALOGUE KEEPS THE JOBS OF ROWS: those that they name are in it as they were
abbrev pub KeepsJobs : Rows → List JobTree → Type 0
KeepsJobs r now = Each (λ row. job_named now row.job ≡ job_named r.catalogue row.job) r.executions

-- a catalogue, and behind it the jobs of an earlier one under names that no line can name
abbrev pub with_hidden : List JobTree → List JobTree → List JobTree
with_hidden now earlier = now ++ map job_hidden earlier

-- the job of each job execution is in the catalogue
abbrev pub AreNamed : Rows → Type 0
AreNamed r = Each (λ row. is_some (job_named r.catalogue row.job) ≡ true) r.executions

-- a call that a line can make
abbrev pub CanBeMade : Call → Type 0
CanBeMade (Start job parameters) = length job < hidden_bytes
CanBeMade (Restart x parameters) = Unit {0}
CanBeMade (Stop x) = Unit {0}
CanBeMade (Abandon x) = Unit {0}
CanBeMade Claim = Unit {0}
CanBeMade (Checkpoint w mark step) = Unit {0}
CanBeMade (Finish w outcome exit step) = Unit {0}
CanBeMade (Lose w) = Unit {0}
CanBeMade (Purge i) = Unit {0}

-- the rows over their catalogue with hidden jobs
abbrev pub over_hidden : List JobTree → Rows → Rows
over_hidden hidden r = record r { catalogue = with_hidden r.catalogue hidden }

-- a legal history with these rows, over their catalogue with hidden jobs
pub record StandsOver (limit : ℕ) (hidden : List JobTree) (r : Rows) (g : History) : Type 0 where
  pub legal : IsLegal limit g
  pub rows_are : rows g ≡ over_hidden hidden r
  pub named : AreNamed r
