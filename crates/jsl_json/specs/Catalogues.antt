-- The text of a catalogue: its jobs, or its first fault. Jobs are counted from 0. The faults of one job are
-- before any of the next.
use Rattle.std.specs.Prelude.{ℕ, List, [], ◌∷◌, ◌++◌, Bool, true, false, length, nat_le, codes, find, is_some, Option, Some, None, Result, Ok, Err, if◌then◌else◌}
use Rattle.serde_json.specs.Data.{Data, Items, no_items, item}
use Rattle.json_members.specs.Members.{data_of, has_only, list_at}
use Rattle.std.specs.Str.{bytes_eq}
use Rattle.jsl_model.specs.declared.job.JobFault.{JobFault}
use Rattle.jsl_model.specs.declared.job.JobFault.TheVariants.{TooMany, DuplicateId}
use Rattle.jsl_model.specs.Jobs.{JobTree}
use Rattle.jsl_model.specs.Faults.{job_fault}
use Rattle.jsl_json.specs.declared.fault.ReadFault.{ReadFault}
use Rattle.jsl_json.specs.declared.fault.ReadFault.TheVariants.{NotJson, NotACatalogue, BadElement, InJob, OutOfMemory}
use Rattle.jsl_json.specs.Members.{own_job_of}
use Rattle.jsl_json.specs.Elements.{◌>>=◌, elements_at}

-- whether memory was refused
abbrev pub is_out_of_memory : ReadFault → Bool
is_out_of_memory NotJson = false
is_out_of_memory NotACatalogue = false
is_out_of_memory (BadElement job element) = false
is_out_of_memory (InJob job fault) = false
is_out_of_memory OutOfMemory = true

-- the value, or this fault if there is none
abbrev pub or_fault : {A : Type 0} → Option A → ReadFault → Result A ReadFault
or_fault (Some found) fault = Ok found
or_fault None fault = Err fault

-- a value, unless the job of this number has a fault
abbrev pub unless_in : {A : Type 0} → ℕ → Option JobFault → A → Result A ReadFault
unless_in job None found = Ok found
unless_in job (Some fault) found = Err (InJob job fault)

-- Jobs

-- the job, of this number, in a value, with or without faults of its own
unfoldable pub job_at : ℕ → Data → Result JobTree ReadFault
job_at job d = do
  own ← or_fault (own_job_of d) (BadElement job None)
  elements ← elements_at job own.elements 0
  Ok (record { id = own.id; restartable = own.restartable; elements = elements.0 })

-- Catalogues

-- the fault for which a catalogue doesn't take a job: it has 256 jobs already, or one with the job's id
abbrev pub entry_fault : List JobTree → JobTree → Option JobFault
entry_fault held job =
    if nat_le 256 (length held) then Some TooMany
    else (if is_some (find (λ other. bytes_eq other.id job.id) held) then Some DuplicateId else None)

-- a catalogue with one more job, whose number is the number of jobs before it
unfoldable pub with_job : List JobTree → Data → Result (List JobTree) ReadFault
with_job held d = do
  read ← job_at (length held) d
  job ← unless_in (length held) (job_fault read) read
  unless_in (length held) (entry_fault held job) (held ++ job ∷ [])

-- a catalogue with these jobs added
abbrev pub with_jobs : List JobTree → Items → Result (List JobTree) ReadFault
with_jobs held no_items = Ok held
with_jobs held (item d ds) = with_job held d >>= λ more. with_jobs more ds

-- the values of the jobs: the value is an object with just `jobs`
unfoldable pub jobs_of : Data → Option Items
jobs_of d = if has_only (codes "jobs" ∷ []) d then list_at (codes "jobs") d else None

-- the jobs of the catalogue in a value, in order, or its first fault
unfoldable pub catalogue_in : Data → Result (List JobTree) ReadFault
catalogue_in d = do
  jobs ← or_fault (jobs_of d) NotACatalogue
  with_jobs [] jobs

-- the jobs of a catalogue's text, in order, or its first fault
unfoldable pub catalogue_of : List ℕ → Result (List JobTree) ReadFault
catalogue_of bytes = do
  d ← or_fault (data_of bytes) NotJson
  catalogue_in d
