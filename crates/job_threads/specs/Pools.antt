-- The sum of the reports of a pool's workers.
use Rattle.std.specs.Prelude.{ℕ, ◌≡◌, ◌-◌, ◌^◌, ◌++◌, ◌∷◌, min, map, sum_by, count_by, List, Result, Ok, Err}
use Rattle.batch_ids.specs.declared.refusal.Refusal.{Refusal}
use Rattle.job_threads.specs.declared.threads.PoolReport.{PoolReport}
use Rattle.job_threads.specs.declared.working.WorkerReport.{WorkerReport}

-- a sum, or the greatest u64 if the sum is above that
abbrev pub within_u64 : ℕ → ℕ
within_u64 sum = min sum (2 ^ 64 - 1)

-- the number of work items that these workers ran, and the number of workers that gave up
abbrev pub items_of : List WorkerReport → ℕ
items_of reports = sum_by (λ (r : WorkerReport). r.items) reports

abbrev pub given_up : List WorkerReport → ℕ
given_up reports = count_by (λ (r : WorkerReport). r.gave_up) reports

-- the sum of the reports if no worker was refused, and otherwise the first refusal
abbrev pub ComesTo : List (Result WorkerReport Refusal) → Result PoolReport Refusal → Type 0
ComesTo results (Ok total) =
    (reports : List WorkerReport) × (results ≡ map Ok reports) × (total.items ≡ within_u64 (items_of reports)) × (total.gave_up ≡ within_u64 (given_up reports))
ComesTo results (Err refusal) =
    (reports : List WorkerReport) × (rest : List (Result WorkerReport Refusal)) × (results ≡ map Ok reports ++ Err refusal ∷ rest)
