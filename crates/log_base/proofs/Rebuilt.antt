-- The rows of a base are those that were shown.
use Rattle.std.proofs.Common.{◌≡◌, ◌∙◌, ℕ, ◌==◌, ◌&&◌, Bool, true, false, cond, Option, None, Some, is_some, not, List, [], ◌∷◌, ◌++◌, find, refl, sym, ap, subst, append_assoc, eqb-true}
use Rattle.std.specs.List.{cons_option}
use Rattle.std.specs.Option.{option_map}
use Rattle.std.proofs.lemmas.Bool.{and_parts, false≢true}
use Rattle.std.proofs.lemmas.List.{append-nil}
use Rattle.jsl_model.specs.Jobs.{JobTree}
use Rattle.batch_history.specs.Checkpoints.{InstanceStep, is_same_step}
use Rattle.batch_history.specs.Rows.{Rows}
use Rattle.batch_history.specs.declared.rows.CheckpointRow.{CheckpointRow}
use Rattle.batch_history.specs.declared.rows.ExecutionRow.{ExecutionRow}
use Rattle.batch_history.specs.declared.rows.JobInstance.{JobInstance}
use Rattle.batch_history.specs.declared.rows.WorkRow.{WorkRow}
use Rattle.walk_rules.proofs.SameKeys.{same-one}
use Rattle.walk_rules.specs.Keys.{is_same_key}
use Rattle.walk_rules.specs.declared.work_key.WorkKey.{WorkKey}
use Rattle.row_repository.specs.Restoring.{checkpoint_fault, has_instance, step_of, with_again, with_checkpoint, with_execution, with_first}
use Rattle.row_repository.specs.Shown.{Shown, mark_in}
use Rattle.row_repository.specs.declared.row_fault.RowFault.TheVariants.{NoOwner, Taken}
use Rattle.base_text.specs.Lines.{base_line_of}
use Rattle.base_text.specs.declared.head.BaseHead.{BaseHead}
use Rattle.base_text.specs.declared.line.BaseLine.{BaseLine}
use Rattle.base_text.specs.declared.line.BaseLine.TheVariants.{Head, Execution, Work, Checkpoint}
use Rattle.log_base.specs.Bases.{AreNextLines, is_next_row, head_in, rows_at_head, rows_of_base, with_line, with_row, with_rows_of}
use Rattle.log_base.specs.Writing.{checkpoint_in, execution_in, shown_in, work_in}

-- ---- What a line adds

-- a list with what a line has, if it has something
abbrev with : {R : Type 0} → List R → Option R → List R
with rows None = rows
with rows (Some row) = rows ++ row ∷ []

executions-with : (r : Rows) (row : ExecutionRow) → (with_execution r row).executions ≡ r.executions ++ row ∷ []
executions-with r row =
    elim (has_instance r row.instance) as (λ b. (cond b (with_again r row) (with_first r row)).executions ≡ r.executions ++ row ∷ []) [
      | true ↦ refl
      | false ↦ refl
    ]

executions-row : (r : Rows) (line : Option BaseLine) → (with_row r line).executions ≡ with r.executions (execution_in line)
executions-row r None = refl
executions-row r (Some (Head head)) = refl
executions-row r (Some (Execution row)) = executions-with r row
executions-row r (Some (Work row)) = refl
executions-row r (Some (Checkpoint row)) = refl

works-row : (r : Rows) (line : Option BaseLine) → (with_row r line).works ≡ with r.works (work_in line)
works-row r None = refl
works-row r (Some (Head head)) = refl
works-row r (Some (Execution row)) =
    elim (has_instance r row.instance) as (λ b. (cond b (with_again r row) (with_first r row)).works ≡ r.works) [
      | true ↦ refl
      | false ↦ refl
    ]
works-row r (Some (Work row)) = refl
works-row r (Some (Checkpoint row)) = refl

-- with the others behind it
behind : {R : Type 0} (rows : List R) (found : Option R) (more : List R) → with rows found ++ more ≡ rows ++ cons_option found more
behind rows None more = refl
behind rows (Some row) more = append_assoc rows (row ∷ []) more

-- ---- What lines add

pub executions_all : (r : Rows) (lines : List (List ℕ)) → (with_rows_of r lines).executions ≡ r.executions ++ (shown_in lines).executions
executions_all r [] = sym (append-nil r.executions)
executions_all r (line ∷ lines) =
    executions_all (with_line r line) lines
    ∙ (ap (λ (rows : List ExecutionRow). rows ++ (shown_in lines).executions) (executions-row r (base_line_of line))
    ∙ behind r.executions (execution_in (base_line_of line)) (shown_in lines).executions)

pub works_all : (r : Rows) (lines : List (List ℕ)) → (with_rows_of r lines).works ≡ r.works ++ (shown_in lines).works
works_all r [] = sym (append-nil r.works)
works_all r (line ∷ lines) =
    works_all (with_line r line) lines
    ∙ (ap (λ (rows : List WorkRow). rows ++ (shown_in lines).works) (works-row r (base_line_of line))
    ∙ behind r.works (work_in (base_line_of line)) (shown_in lines).works)

-- the head's numbers stay
numbers-row : (r : Rows) (line : Option BaseLine) → ((with_row r line).count ≡ r.count) × ((with_row r line).last ≡ r.last) × ((with_row r line).catalogue ≡ r.catalogue)
numbers-row r None = (refl, refl, refl)
numbers-row r (Some (Head head)) = (refl, refl, refl)
numbers-row r (Some (Execution row)) =
    elim (has_instance r row.instance) as (λ b. ((cond b (with_again r row) (with_first r row)).count ≡ r.count) × ((cond b (with_again r row) (with_first r row)).last ≡ r.last) × ((cond b (with_again r row) (with_first r row)).catalogue ≡ r.catalogue)) [
      | true ↦ (refl, refl, refl)
      | false ↦ (refl, refl, refl)
    ]
numbers-row r (Some (Work row)) = (refl, refl, refl)
numbers-row r (Some (Checkpoint row)) = (refl, refl, refl)

pub numbers_all : (r : Rows) (lines : List (List ℕ)) → ((with_rows_of r lines).count ≡ r.count) × ((with_rows_of r lines).last ≡ r.last) × ((with_rows_of r lines).catalogue ≡ r.catalogue)
numbers_all r [] = (refl, refl, refl)
numbers_all r (line ∷ lines) =
    let rest = numbers_all (with_line r line) lines in
    let one = numbers-row r (base_line_of line) in
    (rest.0 ∙ one.0, rest.1 ∙ one.1, rest.2 ∙ one.2)

-- ---- Checkpoints

-- the one, or else the other
abbrev or_else : Option (List ℕ) → Option (List ℕ) → Option (List ℕ)
or_else None other = other
or_else (Some mark) other = Some mark

or-none : (o : Option (List ℕ)) → or_else o None ≡ o
or-none None = refl
or-none (Some mark) = refl

same-place : (p q : InstanceStep) → is_same_step p (Some q) ≡ true → q ≡ p
same-place p q here =
    let parts : ((q.instance == p.instance) ≡ true) × (is_same_key q.step p.step ≡ true) = and_parts _ _ here in
    let one : q.instance ≡ p.instance = eqb-true q.instance p.instance parts.0 in
    let other : q.step ≡ p.step = same-one q.step p.step parts.1 in
    λ i. record { instance = one i; step = other i }

free-by : (there : Bool) (before : Option (List ℕ)) → not (is_some (cond there (cond (is_some before) (Some Taken) None) (Some NoOwner))) ≡ true → before ≡ None
free-by true None next = refl
free-by true (Some mark) next = absurd (false≢true next)
free-by false before next = absurd (false≢true next)

-- a checkpoint that may be the next one is the first of its step
free-place : (r : Rows) (row : CheckpointRow) → is_next_row r (Some (Checkpoint row)) ≡ true → r.checkpoint (step_of row) ≡ None
free-place r row next = free-by (has_instance r row.instance) (r.checkpoint (step_of row)) next

checkpoint-place : (r : Rows) (row : CheckpointRow) (p : InstanceStep) (more : List CheckpointRow) → r.checkpoint (step_of row) ≡ None
    → or_else ((with_checkpoint r row).checkpoint p) (mark_in more p) ≡ or_else (r.checkpoint p) (mark_in (row ∷ more) p)
checkpoint-place r row p more free =
    (elim (is_same_step p (Some (step_of row))) as (λ b. is_same_step p (Some (step_of row)) ≡ b
    → or_else (cond b (Some row.mark) (r.checkpoint p)) (mark_in more p) ≡ or_else (r.checkpoint p) (option_map (λ (one : CheckpointRow). one.mark) (cond b (Some row) (find (λ (one : CheckpointRow). is_same_step p (Some (step_of one))) more)))) [
      | true ↦ λ here. let none : r.checkpoint p ≡ None = ap r.checkpoint (sym (same-place p (step_of row) here)) ∙ free in
          sym (ap (λ (o : Option (List ℕ)). or_else o (Some row.mark)) none)
      | false ↦ λ off. refl
    ]) refl

checkpoint-row : (r : Rows) (line : Option BaseLine) (p : InstanceStep) (more : List CheckpointRow) → is_next_row r line ≡ true
    → or_else ((with_row r line).checkpoint p) (mark_in more p) ≡ or_else (r.checkpoint p) (mark_in (cons_option (checkpoint_in line) more) p)
checkpoint-row r None p more next = absurd (false≢true next)
checkpoint-row r (Some (Head head)) p more next = absurd (false≢true next)
checkpoint-row r (Some (Execution row)) p more next =
    elim (has_instance r row.instance) as (λ b. or_else ((cond b (with_again r row) (with_first r row)).checkpoint p) (mark_in more p) ≡ or_else (r.checkpoint p) (mark_in more p)) [
      | true ↦ refl
      | false ↦ refl
    ]
checkpoint-row r (Some (Work row)) p more next = refl
checkpoint-row r (Some (Checkpoint row)) p more next = checkpoint-place r row p more (free-place r row next)

checkpoint-all : (r : Rows) (lines : List (List ℕ)) (p : InstanceStep) → AreNextLines r lines
    → (with_rows_of r lines).checkpoint p ≡ or_else (r.checkpoint p) (mark_in (shown_in lines).checkpoints p)
checkpoint-all r [] p next = sym (or-none (r.checkpoint p))
checkpoint-all r (line ∷ lines) p next =
    checkpoint-all (with_line r line) lines p next.1
    ∙ checkpoint-row r (base_line_of line) p (shown_in lines).checkpoints next.0

-- ---- All rows

-- THE ROWS OF A BASE that was written of a repository are the repository's, over this catalogue, if the job instances are
pub rebuilt : (jobs : List JobTree) (r : Rows) (head : List ℕ) (lines : List (List ℕ)) (marks : List CheckpointRow) (count : ℕ)
    → head_in (base_line_of head) ≡ Some record { count = r.count; last = r.last; rows = count }
    → shown_in lines ≡ record { executions = r.executions; works = r.works; checkpoints = marks }
    → r.checkpoint ≡ mark_in marks
    → AreNextLines (rows_at_head jobs (head_in (base_line_of head))) lines
    → (rows_of_base jobs (head ∷ lines)).instances ≡ r.instances
    → rows_of_base jobs (head ∷ lines) ≡ record r { catalogue = jobs }
rebuilt jobs r head lines marks count is shown are next instances =
    let begun : Rows = rows_at_head jobs (Some record { count = r.count; last = r.last; rows = count }) in
    let all : Rows = with_rows_of begun lines in
    let from : rows_of_base jobs (head ∷ lines) ≡ all = ap (λ (o : Option BaseHead). with_rows_of (rows_at_head jobs o) lines) is in
    let next_2 : AreNextLines begun lines = subst (λ (o : Option BaseHead). AreNextLines (rows_at_head jobs o) lines) is next in
    let numbers = numbers_all begun lines in
    let executions = executions_all begun lines ∙ ap (λ (s : Shown). s.executions) shown in
    let works = works_all begun lines ∙ ap (λ (s : Shown). s.works) shown in
    let places : (p : InstanceStep) → all.checkpoint p ≡ r.checkpoint p =
    λ p. checkpoint-all begun lines p next_2 ∙ (ap (λ (s : Shown). mark_in s.checkpoints p) shown ∙ sym (ap (λ (f : InstanceStep → Option (List ℕ)). f p) are)) in
    let of_jobs : all.instances ≡ r.instances = ap (λ (o : Rows). o.instances) (sym from) ∙ instances in
    from ∙ (λ i. record {
      catalogue = numbers.2 i;
      count = numbers.0 i;
      last = numbers.1 i;
      instances = of_jobs i;
      executions = executions i;
      works = works i;
      checkpoint = λ p. places p i;
    })
