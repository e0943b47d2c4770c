-- Rows and replies: what the searches find is what the fold has, in every legal history.
use Rattle.batch_history.specs.declared.rows.LastNumbers.{LastNumbers}
use Rattle.std.proofs.Common.{◌≡◌, ℕ, ◌+◌, ◌≤◌, cond, Option, None, Some, List, [], ◌∷◌, length, map, find, filter_map, refl, sym, ◌∙◌, ap, arith}
use Rattle.std.specs.List.{cons_option}
use Rattle.std.specs.Option.{option_map}
use Rattle.std.proofs.lemmas.Bool.{eq-eqb, ne_eqb}
use Rattle.jsl_model.specs.Jobs.{JobTree}
use Rattle.job_plans.proofs.Following.{find-map}
use Rattle.batch_history.specs.declared.call.Call.{Call}
use Rattle.batch_history.specs.declared.call.Entry.{Entry}
use Rattle.batch_history.specs.declared.rows.ExecutionRow.{ExecutionRow}
use Rattle.batch_history.specs.declared.rows.WorkRow.{WorkRow}
use Rattle.batch_history.specs.declared.rows.JobInstance.{JobInstance}
use Rattle.batch_history.proofs.Folds.{made, is_made, folded_rows, execution_row, last_of, works_of, instances_of}
use Rattle.batch_history.specs.Checkpoints.{InstanceStep, checkpoint_of}
use Rattle.batch_history.specs.Executions.{Made, Origin, origin_of, made_as, job_execution_count}
use Rattle.batch_history.specs.Replies.{is_execution, reply_by}
use Rattle.batch_history.specs.Rows.{Rows, row_of_origin, job_execution, numbers_from, job_executions, rows_of_past, last_numbers, all_rows}
use Rattle.batch_history.specs.Works.{work_items, work_item_count}
use Rattle.batch_history.proofs.Ends.{planned-law, walk-law, end-law}
use Rattle.batch_history.proofs.Plans.{due-all-fit}
use Rattle.batch_history.proofs.Stepping.{AreNumbered, numbered, same_row}
use Rattle.batch_history.proofs.Told.{AllDue}
use Rattle.batch_history.proofs.Pasts.{AllFit}
use Rattle.batch_history.proofs.Origins.{origin-law, executions-made, instances-law, instances-made}
use Rattle.batch_history.proofs.Items.{works-law, works-counted}
use Rattle.batch_history.proofs.Times.{stop-law, abandoned-law, start-law, updated-law}
use Rattle.batch_history.proofs.Standing.{marks-law}

-- Job executions

row-law : (limit : ℕ) (catalogue : List JobTree) (past : List Entry) (x : ℕ) (o : Origin) → AllDue limit catalogue past → origin_of past x ≡ Some o
    → row_of_origin catalogue past x o ≡ execution_row catalogue past (made_as x o)
row-law limit catalogue past x o due from =
    let fits : AllFit past = due-all-fit limit catalogue past due in
    same_row (made_as x o) _ _ _ _ _ _ _ _ _ _ _ _ _ _ (planned-law limit catalogue past x o due from) (stop-law past fits x) (abandoned-law past fits x) (start-law past fits x)
    (walk-law limit catalogue past x o due from) (end-law limit catalogue past x o due from) (updated-law past fits x)

row-here : (limit : ℕ) (catalogue : List JobTree) (past : List Entry) (x : ℕ) (m : Made) (o : Option Origin) → AllDue limit catalogue past → origin_of past x ≡ o
    → option_map (made_as x) o ≡ Some m → option_map (row_of_origin catalogue past x) o ≡ Some (execution_row catalogue past m)
row-here limit catalogue past x m None due from is = cc
row-here limit catalogue past x m (Some o) due from is =
    let same : made_as x o ≡ m = cc in
    ap Some (row-law limit catalogue past x o due from) ∙ ap (λ n. Some (execution_row catalogue past n)) same

row-as : (limit : ℕ) (catalogue : List JobTree) (past : List Entry) (x : ℕ) (o : Option Origin) → AllDue limit catalogue past → origin_of past x ≡ o
    → option_map (row_of_origin catalogue past x) o ≡ option_map (execution_row catalogue past) (option_map (made_as x) o)
row-as limit catalogue past x None due from = refl
row-as limit catalogue past x (Some o) due from = ap Some (row-law limit catalogue past x o due from)

-- job execution x, if there is one, is the one that the rows have under this number
pub execution-law : (limit : ℕ) (catalogue : List JobTree) (past : List Entry) (x : ℕ) → AllDue limit catalogue past
    → job_execution catalogue past x ≡ find (is_execution x) (folded_rows catalogue past).executions
execution-law limit catalogue past x due =
    row-as limit catalogue past x (origin_of past x) due refl
    ∙ (ap (option_map (execution_row catalogue past)) (sym (origin-law past (due-all-fit limit catalogue past due) x))
    ∙ sym (find-map (execution_row catalogue past) (is_execution x) (is_made x) (λ n. refl) (made past)))

-- those made from number k on are found under their numbers
abbrev AreFound : List Entry → ℕ → List Made → Type 0
AreFound past k ms = (x : ℕ) → k ≤ x → find (is_made x) ms ≡ option_map (made_as x) (origin_of past x)

rest-found : (past : List Entry) (k : ℕ) (m : Made) (ms : List Made) → m.execution ≡ k → AreFound past k (m ∷ ms) → AreFound past (k + 1) ms
rest-found past k m ms is all x le =
    sym (ap (λ b. cond b (Some m) (find (is_made x) ms)) (ne_eqb m.execution x (λ e. omega (arith, is, e, le)))) ∙ all x (omega arith)

rows-from : (limit : ℕ) (catalogue : List JobTree) (past : List Entry) (k : ℕ) (ms : List Made) → AllDue limit catalogue past → AreNumbered k ms → AreFound past k ms
    → filter_map (job_execution catalogue past) (numbers_from k (length ms)) ≡ map (execution_row catalogue past) ms
rows-from limit catalogue past k [] due h all = refl
rows-from limit catalogue past k (m ∷ ms) due h all =
    let here : option_map (made_as k) (origin_of past k) ≡ Some m =
    sym (all k (omega arith)) ∙ ap (λ b. cond b (Some m) (find (is_made k) ms)) (eq-eqb m.execution k h.0) in
    ap (λ (o : Option ExecutionRow). cons_option o (filter_map (job_execution catalogue past) (numbers_from (k + 1) (length ms))))
    (row-here limit catalogue past k m (origin_of past k) due refl here)
    ∙ ap (λ rows. execution_row catalogue past m ∷ rows) (rows-from limit catalogue past (k + 1) ms due h.1 (rest-found past k m ms h.0 all))

-- the job executions are those that the rows have
pub executions-law : (limit : ℕ) (catalogue : List JobTree) (past : List Entry) → AllDue limit catalogue past
    → job_executions catalogue past ≡ map (execution_row catalogue past) (made past)
executions-law limit catalogue past due =
    ap (λ n. filter_map (job_execution catalogue past) (numbers_from 1 n)) (executions-made past)
    ∙ rows-from limit catalogue past 1 (made past) due (numbered past) (λ x le. origin-law past (due-all-fit limit catalogue past due) x)

-- Rows

-- the last numbers are those that the fold has
last-law : (past : List Entry) → AllFit past → last_numbers past ≡ last_of past
last-law past fits =
    let works : work_item_count past ≡ length (works_of past) = sym (works-counted past) ∙ ap length (works-law past fits) in
    ap (λ n. record { instance = n; execution = job_execution_count past; work = work_item_count past }) (instances-made past)
    ∙ (ap (λ n. record { instance = length (instances_of past); execution = n; work = work_item_count past }) (executions-made past)
    ∙ ap (λ n. record { instance = length (instances_of past); execution = length (made past); work = n }) works)

-- the rows that are found are those that the fold has
pub rows-law : (limit : ℕ) (catalogue : List JobTree) (past : List Entry) → AllDue limit catalogue past → all_rows catalogue past ≡ folded_rows catalogue past
rows-law limit catalogue past due =
    let fits : AllFit past = due-all-fit limit catalogue past due in
    let r : Rows = all_rows catalogue past in
    let all : Rows = folded_rows catalogue past in
    ap (λ (last : LastNumbers). record r { last = last }) (last-law past fits)
    ∙ (ap (λ (rows : List JobInstance). record r { last = last_of past; instances = rows }) (instances-law past)
    ∙ (ap (λ (rows : List ExecutionRow). record all { executions = rows; works = work_items past; checkpoint = checkpoint_of past }) (executions-law limit catalogue past due)
    ∙ (ap (λ (rows : List WorkRow). record all { works = rows; checkpoint = checkpoint_of past }) (works-law past fits)
    ∙ ap (λ (marks : InstanceStep → Option (List ℕ)). record all { checkpoint = marks }) (sym (marks-law past fits)))))
