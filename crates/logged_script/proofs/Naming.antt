-- Each job execution of a log is of a job of its catalogue.
use Rattle.std.proofs.Common.{◌≡◌, ℕ, not, Bool, true, false, cond, Option, Some, None, is_some, List, [], ◌∷◌, refl}
use Rattle.jsl_model.specs.Jobs.{JobTree}
use Rattle.base_text.specs.Lines.{base_line_of}
use Rattle.base_text.specs.declared.head.BaseHead.{BaseHead}
use Rattle.base_text.specs.declared.line.BaseLine.{BaseLine}
use Rattle.base_text.specs.declared.line.BaseLine.TheVariants.{Head, Execution, Work, Checkpoint}
use Rattle.batch_history.specs.declared.rows.ExecutionRow.{ExecutionRow}
use Rattle.batch_history.specs.Legal.{most_numbered}
use Rattle.batch_history.specs.Rows.{Rows}
use Rattle.batch_history.specs.Walks.{job_named}
use Rattle.row_repository.specs.Placed.{begins_in_job, is_placed}
use Rattle.row_repository.specs.Restoring.{again_fault, execution_fault, first_fault, has_instance, is_next, last_in, with_again, with_execution, with_first}
use Rattle.row_repository.specs.declared.row_fault.RowFault.TheVariants.{NotNext, NotPlaced}
use Rattle.catalogue_laws.specs.Leaving.{AreNamed}
use Rattle.catalogue_laws.proofs.OtherNames.{IsNamed, each-append}
use Rattle.log_base.specs.Bases.{AreNextLines, IsBase, head_in, is_next_row, rows_at_head, rows_of_base, with_line, with_row, with_rows_of}
use Rattle.script_engine.specs.ByRows.{line_rows_by, rows_past}
use Rattle.script_log.specs.Runs.{History as LogHistory}
use Rattle.logged_script.specs.Histories.{jobs_at, rows_at, rows_begun}
use Rattle.logged_script.specs.Tags.{commands_in}
use Rattle.logged_script.proofs.HiddenLines.{named-line}

placed-named : (row : ExecutionRow) (job : Option JobTree) → begins_in_job row.plan job ≡ true → is_some job ≡ true
placed-named row None is = is
placed-named row (Some job) is = refl

placed-again : (next placed : Bool) → not (is_some (cond next (cond placed None (Some NotPlaced)) (Some NotNext))) ≡ true → placed ≡ true
placed-again true true is = refl
placed-again true false is = cc
placed-again false placed is = cc

placed-first : (first next placed : Bool) → not (is_some (cond first (cond next (cond placed None (Some NotPlaced)) (Some NotNext)) (Some NotNext))) ≡ true → placed ≡ true
placed-first true next placed is = placed-again next placed is
placed-first false next placed is = cc

named-execution : (r : Rows) (row : ExecutionRow) → not (is_some (execution_fault r row)) ≡ true → AreNamed r → AreNamed (with_execution r row)
named-execution r row fits named =
    let next : Bool = is_next (last_in r).execution r.last.execution row.execution in
    let first : Bool = is_next (last_in r).instance r.last.instance row.instance in
    elim (has_instance r row.instance) as (λ b. not (is_some (cond b (again_fault r row) (first_fault r row))) ≡ true → AreNamed (cond b (with_again r row) (with_first r row))) [
      | true ↦ λ fits. each-append (IsNamed r.catalogue) r.executions row named (placed-named row (job_named r.catalogue row.job) (placed-again next (is_placed r.catalogue row) fits))
      | false ↦ λ fits. each-append (IsNamed r.catalogue) r.executions row named (placed-named row (job_named r.catalogue row.job) (placed-first first next (is_placed r.catalogue row) fits))
    ] fits

named-row : (r : Rows) (line : Option BaseLine) → is_next_row r line ≡ true → AreNamed r → AreNamed (with_row r line)
named-row r None next named = cc
named-row r (Some (Head head)) next named = cc
named-row r (Some (Execution row)) next named = named-execution r row next named
named-row r (Some (Work row)) next named = named
named-row r (Some (Checkpoint row)) next named = named

named-rows : (r : Rows) (lines : List (List ℕ)) → AreNextLines r lines → AreNamed r → AreNamed (with_rows_of r lines)
named-rows r [] next named = named
named-rows r (line ∷ lines) next named = named-rows (with_line r line) lines next.1 (named-row r (base_line_of line) next.0 named)

named-head : (jobs : List JobTree) (head : Option BaseHead) → AreNamed (rows_at_head jobs head)
named-head jobs None = tt
named-head jobs (Some head) = tt

named-base : (jobs : List JobTree) (base : List (List ℕ)) → IsBase most_numbered jobs base → AreNamed (rows_of_base jobs base)
named-base jobs [] is = tt
named-base jobs (line ∷ lines) is =
    named-rows (rows_at_head jobs (head_in (base_line_of line))) lines is.next (named-head jobs (head_in (base_line_of line)))

named-past : (r : Rows) (lines : List (List ℕ)) → AreNamed r → AreNamed (rows_past most_numbered r lines)
named-past r [] named = named
named-past r (line ∷ lines) named = named-past (line_rows_by most_numbered r line) lines (named-line most_numbered r line named)

-- that holds of the base, and each line leaves it so
pub named_log : (tags : Bool) (h : LogHistory) → IsBase most_numbered (jobs_at h) h.base → AreNamed (rows_at tags h)
named_log tags h is = named-past (rows_begun h) (commands_in tags h.lines) (named-base (jobs_at h) h.base is)
