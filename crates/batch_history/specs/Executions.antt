-- Job instances and job executions (Jakarta Batch 2.1, "JobInstance" and "JobExecution"). Job instance i is
-- the i-th Start, and job execution x is the x-th Start or Restart. A past is the list of entries before a
-- moment, the newest first.
use Rattle.std.specs.Option.{option_map}
use Rattle.std.specs.Prelude.{ℕ, ◌+◌, ◌==◌, ◌&&◌, Bool, Option, Some, None, List, [], ◌∷◌, ◌++◌, count_by, if◌then◌else◌}
use Rattle.batch_history.specs.Operations.{Making, begins, restarts, effects, makes_instance, makes_execution}
use Rattle.batch_history.specs.declared.call.Call.{Call}
use Rattle.batch_history.specs.declared.call.Entry.{Entry}
use Rattle.batch_history.specs.declared.rows.JobInstance.{JobInstance}
use Rattle.batch_ids.specs.Parameters.{Pair}

-- the number of job instances
abbrev pub job_instance_count : List Entry → ℕ
job_instance_count past = count_by (λ e. makes_instance e.call) past

-- the job instance that is begun under this number
abbrev pub instance_begun : ℕ → Option Making → List JobInstance
instance_begun i None = []
instance_begun i (Some (begins job parameters)) = record { instance = i; job = job } ∷ []
instance_begun i (Some (restarts y parameters)) = []

-- the job instance that a call makes under this number
abbrev pub instance_begun_by : ℕ → Call → List JobInstance
instance_begun_by i call = instance_begun i (effects call).makes

-- the job instances, in order
abbrev pub job_instances : List Entry → List JobInstance
job_instances [] = []
job_instances (e ∷ older) = job_instances older ++ instance_begun_by (job_instance_count older + 1) e.call

-- the number of job executions
abbrev pub job_execution_count : List Entry → ℕ
job_execution_count past = count_by (λ e. makes_execution e.call) past

-- whether a call after these entries is the x-th Start or Restart
abbrev pub makes_job_execution : List Entry → ℕ → Call → Bool
makes_job_execution older x call = makes_execution call && (job_execution_count older + 1 == x)

-- the origin of a job execution: its job instance, the job's id, the parameters of its start or restart, and
-- its moment
pub record Origin : Type 0 where
  pub instance : ℕ
  pub job : List ℕ
  pub parameters : List Pair
  pub create : ℕ

-- the origin by a Restart at this moment: it has the job instance and the job of the job execution that the
-- Restart names
abbrev pub restarted_origin : List Pair → ℕ → Option Origin → Option Origin
restarted_origin parameters at None = None
restarted_origin parameters at (Some o) = Some record { instance = o.instance; job = o.job; parameters = parameters; create = at }

-- the origin of a job execution made at this moment. A Start begins the next job instance. A Restart goes on
-- with the job instance of the job execution that it names
abbrev pub origin_by_making : ℕ → ℕ → (ℕ → Option Origin) → Option Making → Option Origin
origin_by_making instances at earlier None = None
origin_by_making instances at earlier (Some (begins job parameters)) =
    Some record { instance = instances + 1; job = job; parameters = parameters; create = at }
origin_by_making instances at earlier (Some (restarts y parameters)) = restarted_origin parameters at (earlier y)

-- the origin of the job execution that a call makes
abbrev pub origin_by_call : ℕ → ℕ → (ℕ → Option Origin) → Call → Option Origin
origin_by_call instances at earlier call = origin_by_making instances at earlier (effects call).makes

-- the origin of job execution x, if it exists
abbrev pub origin_of : List Entry → ℕ → Option Origin
origin_of [] x = None
origin_of (e ∷ older) x =
    if makes_job_execution older x e.call then origin_by_call (job_instance_count older) e.at (origin_of older) e.call else origin_of older x

-- the job instance of job execution x, if it exists
abbrev pub instance_of_execution : List Entry → ℕ → Option ℕ
instance_of_execution past x = option_map (λ o. o.instance) (origin_of past x)

-- a job execution as it was made
pub record Made : Type 0 where
  pub execution : ℕ
  pub instance : ℕ
  pub job : List ℕ
  pub parameters : List Pair
  pub create : ℕ

-- the job execution of this number and origin, as it was made
abbrev pub made_as : ℕ → Origin → Made
made_as x o = record { execution = x; instance = o.instance; job = o.job; parameters = o.parameters; create = o.create }
