-- The calls of a script (`do`), one definition for each entry of the table: the members that a line has, and
-- no others. A text may be of any length here.
use Rattle.std.specs.Prelude.{ℕ, List, [], ◌∷◌, bytes_eq, codes, Option, Some, None, option_map, if◌then◌else◌}
use Rattle.serde_json.specs.Data.{Data}
use Rattle.json_members.specs.Members.{has_only, text_at, number_at, optional_text}
use Rattle.batch_ids.specs.Statuses.{outcome_named}
use Rattle.batch_history.specs.declared.call.Call.{Call}
use Rattle.batch_history.specs.declared.call.Call.TheVariants.{Start, Restart, Stop, Abandon, Claim, Checkpoint, Finish, Lose, Purge}
use Rattle.json_members.specs.Chains.{◌>>=◌}
use Rattle.script_text.specs.Parameters.{parameters_at}
use Rattle.script_text.specs.Metrics.{metrics_at}

-- start: the name of a job, and parameters, which may be left out
unfoldable pub start_of : Data → Option Call
start_of d =
    if has_only (codes "do" ∷ codes "by" ∷ codes "at" ∷ codes "job" ∷ codes "parameters" ∷ []) d
    then (do
      job ← text_at (codes "job") d
      parameters ← parameters_at d
      Some (Start job parameters))
    else None

-- restart: a job execution, and parameters, which may be left out
unfoldable pub restart_of : Data → Option Call
restart_of d =
    if has_only (codes "do" ∷ codes "by" ∷ codes "at" ∷ codes "execution" ∷ codes "parameters" ∷ []) d
    then (do
      execution ← number_at (codes "execution") d
      parameters ← parameters_at d
      Some (Restart execution parameters))
    else None

-- stop: a job execution
unfoldable pub stop_of : Data → Option Call
stop_of d =
    if has_only (codes "do" ∷ codes "by" ∷ codes "at" ∷ codes "execution" ∷ []) d
    then option_map Stop (number_at (codes "execution") d)
    else None

-- abandon: a job execution
unfoldable pub abandon_of : Data → Option Call
abandon_of d =
    if has_only (codes "do" ∷ codes "by" ∷ codes "at" ∷ codes "execution" ∷ []) d
    then option_map Abandon (number_at (codes "execution") d)
    else None

-- claim: nothing more
unfoldable pub claim_of : Data → Option Call
claim_of d = if has_only (codes "do" ∷ codes "by" ∷ codes "at" ∷ []) d then Some Claim else None

-- checkpoint: a work item, the position from which its reader goes on, and metrics, which may be left out
unfoldable pub checkpoint_of : Data → Option Call
checkpoint_of d =
    if has_only (codes "do" ∷ codes "by" ∷ codes "at" ∷ codes "work" ∷ codes "data" ∷ codes "metrics" ∷ []) d
    then (do
      work ← number_at (codes "work") d
      mark ← text_at (codes "data") d
      step ← metrics_at d
      Some (Checkpoint work mark step))
    else None

-- finish: a work item, its outcome, its exit status and metrics; the last two may be left out
unfoldable pub finish_of : Data → Option Call
finish_of d =
    if has_only (codes "do" ∷ codes "by" ∷ codes "at" ∷ codes "work" ∷ codes "outcome" ∷ codes "exit" ∷ codes "metrics" ∷ []) d
    then (do
      work ← number_at (codes "work") d
      name ← text_at (codes "outcome") d
      outcome ← outcome_named name
      exit ← optional_text (codes "exit") d
      step ← metrics_at d
      Some (Finish work outcome exit step))
    else None

-- lose: a work item
unfoldable pub lose_of : Data → Option Call
lose_of d =
    if has_only (codes "do" ∷ codes "by" ∷ codes "at" ∷ codes "work" ∷ []) d
    then option_map Lose (number_at (codes "work") d)
    else None

-- purge: a job instance
unfoldable pub purge_of : Data → Option Call
purge_of d =
    if has_only (codes "do" ∷ codes "by" ∷ codes "at" ∷ codes "instance" ∷ []) d
    then option_map Purge (number_at (codes "instance") d)
    else None

-- the call of a line whose `do` is this word
unfoldable pub call_named : List ℕ → Data → Option Call
call_named word d =
    if bytes_eq word (codes "start") then start_of d
    else (if bytes_eq word (codes "restart") then restart_of d
    else (if bytes_eq word (codes "stop") then stop_of d
    else (if bytes_eq word (codes "abandon") then abandon_of d
    else (if bytes_eq word (codes "claim") then claim_of d
    else (if bytes_eq word (codes "checkpoint") then checkpoint_of d
    else (if bytes_eq word (codes "finish") then finish_of d
    else (if bytes_eq word (codes "lose") then lose_of d
    else (if bytes_eq word (codes "purge") then purge_of d else None))))))))
