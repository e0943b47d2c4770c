-- The step execution of a partitioned step, by the work items of the step.
use Rattle.std.proofs.Common.{◌≡◌, ℕ, ◌==◌, ◌&&◌, Bool, true, false, cond, Option, None, Some, List, [], ◌∷◌, find, filter, reverse, refl, sym, ◌∙◌, ap, subst}
use Rattle.std.specs.List.{filter_map, cons_option}
use Rattle.std.specs.Option.{option_and_then}
use Rattle.std.specs.Cmp.Lexicographic.{bytes_decides}
use Rattle.std.specs.Str.{bytes_eq}
use Rattle.std.proofs.lemmas.Bool.{eq-eqb}
use Rattle.jsl_model.specs.Catalogues.{AreJobs}
use Rattle.jsl_model.specs.Jobs.{JobTree}
use Rattle.jsl_model.specs.declared.element.Task.{Task}
use Rattle.walk_rules.specs.Keys.{key_of}
use Rattle.batch_history.specs.Executions.{Made}
use Rattle.batch_history.specs.Legal.{IsLegal}
use Rattle.batch_history.specs.Replies.{partitions_of_job}
use Rattle.batch_history.specs.Rows.{History, Rows}
use Rattle.batch_history.specs.StepExecutions.{any_left, shown_partitions, shown_step, same_step, is_first, partitions_shown, if_step, step_by_partition, step_execution, step_executions}
use Rattle.batch_history.specs.Walks.{job_named}
use Rattle.batch_history.specs.Works.{work_key}
use Rattle.batch_history.specs.declared.call.Entry.{Entry}
use Rattle.batch_history.specs.declared.call.WorkKind.{WorkKind}
use Rattle.batch_history.specs.declared.call.WorkKind.TheVariants.{Batchlet, Chunk, Decision}
use Rattle.batch_history.specs.declared.query.StepExecution.{StepExecution}
use Rattle.batch_history.specs.declared.rows.ExecutionRow.{ExecutionRow}
use Rattle.batch_history.specs.declared.rows.WorkRow.{WorkRow}
use Rattle.batch_history.proofs.Finished.{on-it}
use Rattle.batch_history.proofs.Folds.{made, is_made, works_of, execution_row}
use Rattle.batch_history.proofs.Legality.{past-due, all_rows_folded}
use Rattle.batch_history.specs.Lists.{Each}
use Rattle.batch_history.proofs.Told.{AllDue}
use Rattle.history_laws.specs.Laws.{row_in}
use Rattle.history_laws.specs.StepExecutions.{steps_in, step_among, step_in, IsPartitioned}
use Rattle.history_laws.proofs.Beginnings.{row-folded, row-there, IsRowAt, row-at}
use Rattle.history_laws.proofs.EachWork.{is_step_kind}
use Rattle.history_laws.proofs.StepItems.{items, leaves_some, IsItem, each-item}
use Rattle.history_laws.proofs.StepLeaves.{IsPartitionedOf, partitioned-of}

-- ---- Among the step executions of a job execution

-- the step execution that the work items of a step are
abbrev pub shown_of : List JobTree → List Entry → Made → List ℕ → ℕ → List WorkRow → Option StepExecution
shown_of catalogue past m step n [] = None
shown_of catalogue past m step n (first ∷ rest) =
    Some (shown_partitions (execution_row catalogue past m) (leaves_some catalogue past m.execution step n) (first ∷ rest) first)

filter-twice : (p q : WorkRow → Bool) (rows : List WorkRow) → filter q (filter p rows) ≡ filter (λ row. p row && q row) rows
filter-twice p q [] = refl
filter-twice p q (r ∷ rs) =
    elim (p r) as (λ b. filter q (cond b (r ∷ filter p rs) (filter p rs)) ≡ cond (b && q r) (r ∷ filter (λ row. p row && q row) rs) (filter (λ row. p row && q row) rs)) [
      | true ↦ ap (λ l. cond (q r) (r ∷ l) l) (filter-twice p q rs)
      | false ↦ filter-twice p q rs
    ]

first-shown : (f : WorkRow → Option StepExecution) (step : List ℕ) (rows : List WorkRow) (first : WorkRow) (rest : List WorkRow) (s : StepExecution)
    → ((row : WorkRow) (t : StepExecution) → f row ≡ Some t → t.step ≡ row.element)
    → filter (λ (row : WorkRow). bytes_eq row.element step) rows ≡ first ∷ rest → f first ≡ Some s → bytes_eq first.element step ≡ true
    → step_among step (filter_map f rows) ≡ Some s
first-shown f step [] first rest s named is shows on = cc
first-shown f step (r ∷ rs) first rest s named is shows on =
    on-it (bytes_eq r.element step)
    (λ here.
    let whole : r ∷ filter (λ (row : WorkRow). bytes_eq row.element step) rs ≡ first ∷ rest =
    sym (ap (λ b. cond b (r ∷ filter (λ (row : WorkRow). bytes_eq row.element step) rs) (filter (λ (row : WorkRow). bytes_eq row.element step) rs)) here) ∙ is in
    let same : r ≡ first = cc in
    ap (λ o. step_among step (cons_option o (filter_map f rs))) (ap f same ∙ shows)
    ∙ ap (λ b. cond b (Some s) (step_among step (filter_map f rs))) (ap (λ i. bytes_eq i step) (named first s shows) ∙ on))
    (λ off.
    let later : step_among step (filter_map f rs) ≡ Some s =
    first-shown f step rs first rest s named
    (sym (ap (λ b. cond b (r ∷ filter (λ (row : WorkRow). bytes_eq row.element step) rs) (filter (λ (row : WorkRow). bytes_eq row.element step) rs)) off) ∙ is) shows on in
    (elim (f r) as (λ o. f r ≡ o → step_among step (cons_option o (filter_map f rs)) ≡ Some s) [
      | None ↦ λ e. later
      | Some t ↦ λ e. ap (λ b. cond b (Some t) (step_among step (filter_map f rs))) (ap (λ i. bytes_eq i step) (named r t e) ∙ off) ∙ later
    ]) refl)

none-shown : (f : WorkRow → Option StepExecution) (step : List ℕ) (rows : List WorkRow)
    → ((row : WorkRow) (t : StepExecution) → f row ≡ Some t → t.step ≡ row.element)
    → filter (λ (row : WorkRow). bytes_eq row.element step) rows ≡ [] → step_among step (filter_map f rows) ≡ None
none-shown f step [] named is = refl
none-shown f step (r ∷ rs) named is =
    on-it (bytes_eq r.element step)
    (λ here.
    let bad : r ∷ filter (λ (row : WorkRow). bytes_eq row.element step) rs ≡ [] =
    sym (ap (λ b. cond b (r ∷ filter (λ (row : WorkRow). bytes_eq row.element step) rs) (filter (λ (row : WorkRow). bytes_eq row.element step) rs)) here) ∙ is in cc)
    (λ off.
    let later : step_among step (filter_map f rs) ≡ None =
    none-shown f step rs named
    (sym (ap (λ b. cond b (r ∷ filter (λ (row : WorkRow). bytes_eq row.element step) rs) (filter (λ (row : WorkRow). bytes_eq row.element step) rs)) off) ∙ is) in
    (elim (f r) as (λ o. f r ≡ o → step_among step (cons_option o (filter_map f rs)) ≡ None) [
      | None ↦ λ e. later
      | Some t ↦ λ e. ap (λ b. cond b (Some t) (step_among step (filter_map f rs))) (ap (λ i. bytes_eq i step) (named r t e) ∙ off) ∙ later
    ]) refl)

-- ---- Each step execution is of the step of its work item

by-kind : (kind : WorkKind) (o : Option StepExecution) (t : StepExecution) → if_step kind o ≡ Some t → o ≡ Some t
by-kind Batchlet o t h = h
by-kind Chunk o t h = h
by-kind Decision o t h = cc

of-kind : (kind : WorkKind) (o : Option StepExecution) → is_step_kind kind ≡ true → if_step kind o ≡ o
of-kind Batchlet o h = refl
of-kind Chunk o h = refl
of-kind Decision o h = cc

partitions-named : (first : Bool) (s : StepExecution) (row : WorkRow) (t : StepExecution) → s.step ≡ row.element → cond first (Some s) None ≡ Some t → t.step ≡ row.element
partitions-named true s row t named h = let same : s ≡ t = cc in ap (λ (z : StepExecution). z.step) (sym same) ∙ named
partitions-named false s row t named h = cc

by-partition : (job : Option JobTree) (owner : ExecutionRow) (works : List WorkRow) (row : WorkRow) (p : Option ℕ) (t : StepExecution)
    → step_by_partition job owner works row p ≡ Some t → t.step ≡ row.element
by-partition job owner works row None t h = let same : shown_step row ≡ t = cc in sym (ap (λ (z : StepExecution). z.step) same)
by-partition job owner works row (Some p) t h = partitions-named (is_first (same_step works row) row) _ row t refl h

step-named : (job : Option JobTree) (owner : ExecutionRow) (works : List WorkRow) (row : WorkRow) (t : StepExecution) → step_execution job owner works row ≡ Some t
    → t.step ≡ row.element
step-named job owner works row t h = by-partition job owner works row row.partition t (by-kind row.kind (step_by_partition job owner works row row.partition) t h)

-- ---- The step execution of a partitioned step

first-is : (first : WorkRow) (rest : List WorkRow) → is_first (first ∷ rest) first ≡ true
first-is first rest = eq-eqb first.work first.work refl

partitioned-shown : (catalogue : List JobTree) (past : List Entry) (m : Made) (step : List ℕ) (n : ℕ) (task : Task) (works : List WorkRow) (first : WorkRow) (rest : List WorkRow)
    → filter (λ (row : WorkRow). bytes_eq row.element step) works ≡ first ∷ rest → items past m.execution step ≡ first ∷ rest
    → IsItem catalogue past m step n task first
    → step_execution (job_named catalogue m.job) (execution_row catalogue past m) works first ≡ shown_of catalogue past m step n (first ∷ rest)
partitioned-shown catalogue past m step n task works first rest is these item =
    let owner : ExecutionRow = execution_row catalogue past m in
    let job : Option JobTree = job_named catalogue m.job in
    let count : partitions_of_job job (work_key first) ≡ Some n =
    ap (λ i. partitions_of_job job (key_of i (work_key first).partition)) item.element ∙ item.of.count in
    let same : same_step works first ≡ first ∷ rest = ap (λ i. filter (λ (row : WorkRow). bytes_eq row.element i) works) item.element ∙ is in
    of-kind first.kind (step_by_partition job owner works first first.partition) item.step_work.kind
    ∙ (ap (step_by_partition job owner works first) item.is_partition
    ∙ (ap (λ o. partitions_shown owner o (same_step works first) first) count
    ∙ (ap (λ rows. partitions_shown owner (Some n) rows first) same
    ∙ (ap (λ b. cond b (Some (shown_partitions owner (any_left owner.plan first.element (first ∷ rest) (Some n)) (first ∷ rest) first)) None) (first-is first rest)
    ∙ ap (λ l. Some (shown_partitions owner l (first ∷ rest) first))
    (ap (λ i. any_left owner.plan i (first ∷ rest) (Some n)) item.element ∙ ap (λ rows. any_left owner.plan step rows (Some n)) (sym these))))))

among-shown : (catalogue : List JobTree) (past : List Entry) (m : Made) (step : List ℕ) (n : ℕ) (task : Task) (works these : List WorkRow)
    → filter (λ (row : WorkRow). bytes_eq row.element step) works ≡ these → items past m.execution step ≡ these
    → Each (IsItem catalogue past m step n task) these
    → step_among step (filter_map (step_execution (job_named catalogue m.job) (execution_row catalogue past m) works) works) ≡ shown_of catalogue past m step n these
among-shown catalogue past m step n task works [] is these each =
    none-shown (step_execution (job_named catalogue m.job) (execution_row catalogue past m) works) step works
    (step-named (job_named catalogue m.job) (execution_row catalogue past m) works) is
among-shown catalogue past m step n task works (first ∷ rest) is these each =
    first-shown (step_execution (job_named catalogue m.job) (execution_row catalogue past m) works) step works first rest _
    (step-named (job_named catalogue m.job) (execution_row catalogue past m) works) is
    (partitioned-shown catalogue past m step n task works first rest is these each.0) ((bytes_decides first.element step).1 each.0.element)

-- a partitioned step of a legal history, by the past
pub record IsShown (h : History) (x : ℕ) (step : List ℕ) (n : ℕ) : Type 0 where
  pub one : Made
  pub task : Task
  pub number : one.execution ≡ x
  pub found : find (is_made one.execution) (made (reverse h.log)) ≡ Some one
  pub part : IsPartitionedOf (job_named h.catalogue one.job) step n task
  pub is_row : (row : ExecutionRow) → row_in h x ≡ Some row → row ≡ execution_row h.catalogue (reverse h.log) one

pub shown-by : (limit : ℕ) (h : History) → IsLegal limit h → AreJobs h.catalogue → (x : ℕ) (step : List ℕ) (n : ℕ) → (p : IsPartitioned h x step n) → IsShown h x step n
shown-by limit h legal jobs x step n p =
    let past : List Entry = reverse h.log in
    let from : IsRowAt h.catalogue past x p.owner = row-at h.catalogue past x p.owner (sym (row-folded limit h legal x) ∙ p.found) in
    record {
      one = from.one;
      task = p.task;
      number = from.number;
      found = from.found;
      part = subst (λ (name : List ℕ). IsPartitionedOf (job_named h.catalogue name) step n p.task) (ap (λ (r : ExecutionRow). r.job) from.is_row)
          (partitioned-of h.catalogue p.owner.job step n p.task jobs p.runs p.partitions);
      is_row = λ row there. let same : row ≡ p.owner = let both : Some row ≡ Some p.owner = sym there ∙ p.found in cc in same ∙ from.is_row;
    }

-- the step execution of it after a history with such a past
pub step-shown : (limit : ℕ) (h : History) → IsLegal limit h → (m : Made) (step : List ℕ) (n : ℕ) (task : Task)
    → find (is_made m.execution) (made (reverse h.log)) ≡ Some m → IsPartitionedOf (job_named h.catalogue m.job) step n task
    → step_in h m.execution step ≡ shown_of h.catalogue (reverse h.log) m step n (items (reverse h.log) m.execution step)
step-shown limit h legal m step n task found part =
    let past : List Entry = reverse h.log in
    let due : AllDue limit h.catalogue past = past-due limit h legal in
    let owner : ExecutionRow = execution_row h.catalogue past m in
    let row : row_in h m.execution ≡ Some owner = row-folded limit h legal m.execution ∙ row-there h.catalogue past m.execution m found in
    let works : List WorkRow = filter (λ (row : WorkRow). row.execution == m.execution) (works_of past) in
    ap (option_and_then (λ (r : ExecutionRow). step_among step (steps_in h r))) row
    ∙ (ap (λ (r : Rows). step_among step (step_executions r owner)) (all_rows_folded limit h legal)
    ∙ among-shown h.catalogue past m step n task works (items past m.execution step)
    (filter-twice (λ row. row.execution == m.execution) (λ row. bytes_eq row.element step) (works_of past)) refl
    (each-item limit h.catalogue past m step n task due found part))
