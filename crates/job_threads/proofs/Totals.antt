-- The reports of a pool's workers are added up.
use Rattle.std.proofs.Common.{◌≡◌, ℕ, ◌+◌, ◌<◌, ◌++◌, ◌∷◌, [], List, map, drop, length, get_or, cond, append-nil, append_assoc, sym, ap, ◌∙◌, arith, Result, Ok, Err}
use Rattle.std.proofs.lemmas.List.{map-append, drop_more}
use Rattle.std.proofs.lemmas.List.Sums.{sum_by-append}
use Rattle.batch_ids.specs.declared.refusal.Refusal.{Refusal}
use Rattle.job_threads.specs.declared.threads.PoolReport.{PoolReport}
use Rattle.job_threads.specs.declared.working.WorkerReport.{WorkerReport}
use Rattle.job_threads.specs.Pools.{ComesTo, given_up, items_of, within_u64}

-- so far no worker was refused, and these are left
abbrev pub SoFar : List (Result WorkerReport Refusal) → List (Result WorkerReport Refusal) → PoolReport → Type 0
SoFar results left total =
    (reports : List WorkerReport) × (results ≡ map Ok reports ++ left) × (total.items ≡ within_u64 (items_of reports)) × (total.gave_up ≡ within_u64 (given_up reports))

within-more : (total sum more : ℕ) → total ≡ within_u64 sum → within_u64 (total + more) ≡ within_u64 (sum + more)
within-more total sum more is = omega (arith, is)

items-snoc : (rs : List WorkerReport) (r : WorkerReport) → items_of (rs ++ r ∷ []) ≡ items_of rs + r.items
items-snoc rs r = omega (arith, sum_by-append (λ (x : WorkerReport). x.items) rs (r ∷ []))

given_up-snoc : (rs : List WorkerReport) (r : WorkerReport) → given_up (rs ++ r ∷ []) ≡ given_up rs + cond r.gave_up 1 0
given_up-snoc rs r = omega (arith, sum_by-append (λ (x : WorkerReport). cond x.gave_up 1 0) rs (r ∷ []))

pub one-report : (results left : List (Result WorkerReport Refusal)) (total new : PoolReport) (report : WorkerReport) → SoFar results (Ok report ∷ left) total
    → new.items ≡ within_u64 (total.items + report.items) → new.gave_up ≡ within_u64 (total.gave_up + cond report.gave_up 1 0) → SoFar results left new
one-report results left total new report so items gave_up = (
  so.0 ++ report ∷ [],
  so.1 ∙ (sym (append_assoc (map Ok so.0) (Ok report ∷ []) left) ∙ ap (λ xs. xs ++ left) (sym (map-append Ok so.0 (report ∷ [])))),
  items ∙ (within-more total.items (items_of so.0) report.items so.2 ∙ ap within_u64 (sym (items-snoc so.0 report))),
  gave_up ∙ (within-more total.gave_up (given_up so.0) (cond report.gave_up 1 0) so.3 ∙ ap within_u64 (sym (given_up-snoc so.0 report))),
)

pub at-report : (results : List (Result WorkerReport Refusal)) (i : ℕ) (d : Result WorkerReport Refusal) (report : WorkerReport) (total : PoolReport) → SoFar results (drop i results) total
    → i < length results → get_or results i d ≡ Ok report → SoFar results (Ok report ∷ drop (i + 1) results) total
at-report results i d report total so lt is =
    (so.0, so.1 ∙ ap (λ xs. map Ok so.0 ++ xs) (drop_more results i d lt ∙ ap (λ x. x ∷ drop (i + 1) results) is), so.2, so.3)

pub all-reported : (results : List (Result WorkerReport Refusal)) (total : PoolReport) → SoFar results [] total → ComesTo results (Ok total)
all-reported results total so = (so.0, so.1 ∙ append-nil (map Ok so.0), so.2, so.3)

pub one-refused : (results left : List (Result WorkerReport Refusal)) (total : PoolReport) (refusal : Refusal) → SoFar results (Err refusal ∷ left) total → ComesTo results (Err refusal)
one-refused results left total refusal so = (so.0, left, so.1)
