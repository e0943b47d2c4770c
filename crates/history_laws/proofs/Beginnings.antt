-- The rows of a legal history, and of its past.
use Rattle.std.proofs.Common.{◌≡◌, ℕ, Some, Ok, List, [], ◌∷◌, ◌++◌, find, reverse, refl, sym, ◌∙◌, ap}
use Rattle.std.specs.Option.{option_map}
use Rattle.std.proofs.lemmas.Bool.{eqb-true}
use Rattle.jsl_model.specs.Jobs.{JobTree}
use Rattle.job_plans.proofs.Following.{find-map}
use Rattle.batch_history.specs.declared.call.Entry.{Entry}
use Rattle.batch_history.proofs.Folds.{made, is_made, works_of, folded_rows, execution_row}
use Rattle.batch_history.specs.Executions.{Made}
use Rattle.batch_history.specs.Legal.{IsLegal}
use Rattle.batch_history.specs.Purges.{is_purged}
use Rattle.batch_history.specs.Replies.{is_execution, reply, reply_by}
use Rattle.batch_history.specs.Rows.{History, Rows, all_rows, existing}
use Rattle.batch_history.specs.declared.call.Call.{Call}
use Rattle.batch_history.specs.declared.call.Reply.{Reply}
use Rattle.batch_history.specs.Works.{is_work}
use Rattle.batch_history.specs.declared.rows.ExecutionRow.{ExecutionRow}
use Rattle.history_laws.specs.Laws.{row_in, work_in}
use Rattle.batch_history.proofs.Finding.{found-passes}
use Rattle.batch_history.proofs.Agreeing.{execution-law}
use Rattle.batch_history.proofs.Items.{works-law}
use Rattle.batch_history.proofs.Bridge.{accepted-by-all}
use Rattle.batch_history.proofs.Legality.{past-due, past-due-there, all_rows_folded}
use Rattle.batch_history.proofs.Purged.{all-whole}
use Rattle.batch_history.proofs.Plans.{due-all-fit}
use Rattle.batch_history.proofs.Told.{AllDue, IsRowOf, row-of}

-- ---- What stands in the log of a legal history

-- the record of a job execution is the row that the fold has
pub row-folded : (limit : ℕ) (h : History) → IsLegal limit h → (x : ℕ) → row_in h x ≡ find (is_execution x) (folded_rows h.catalogue (reverse h.log)).executions
row-folded limit h legal x = execution-law limit h.catalogue (reverse h.log) x (past-due limit h legal)

-- so is a work item
pub work-folded : (limit : ℕ) (h : History) → IsLegal limit h → (w : ℕ) → work_in h w ≡ find (is_work w) (works_of (reverse h.log))
work-folded limit h legal w =
    ap (find (is_work w)) (works-law (reverse h.log) (due-all-fit limit h.catalogue (reverse h.log) (past-due limit h legal)))

-- ---- All that was made

-- the rows of all that a history has made
abbrev pub all_of : History → Rows
all_of h = all_rows h.catalogue (reverse h.log)

-- an accepted call is answered alike by them
pub answered-by-all : (limit : ℕ) (h : History) → IsLegal limit h → (who : ℕ) (call : Call) (given : Reply) → reply limit h who call ≡ Ok given
    → reply_by limit (all_of h) who call ≡ Ok given
answered-by-all limit h legal who call given e =
    let past : List Entry = reverse h.log in
    let folded : all_of h ≡ folded_rows h.catalogue past = all_rows_folded limit h legal in
    ap (λ (r : Rows). reply_by limit r who call) folded
    ∙ accepted-by-all (is_purged past) (folded_rows h.catalogue past) limit who call given
    (all-whole limit h.catalogue past (past-due limit h legal) (past-due-there limit h legal))
    (ap (λ (r : Rows). reply_by limit (existing (is_purged past) r) who call) (sym folded) ∙ e)

-- ---- Rows of a past

-- the row of a job execution that was made
pub row-there : (catalogue : List JobTree) (past : List Entry) (x : ℕ) (m : Made) → find (is_made x) (made past) ≡ Some m
    → find (is_execution x) (folded_rows catalogue past).executions ≡ Some (execution_row catalogue past m)
row-there catalogue past x m found =
    find-map (execution_row catalogue past) (is_execution x) (is_made x) (λ n. refl) (made past) ∙ ap (option_map (execution_row catalogue past)) found

pub record IsRowAt (catalogue : List JobTree) (past : List Entry) (x : ℕ) (row : ExecutionRow) : Type 0 where
  pub one : Made
  pub number : one.execution ≡ x
  pub found : find (is_made one.execution) (made past) ≡ Some one
  pub is_row : row ≡ execution_row catalogue past one

pub row-at : (catalogue : List JobTree) (past : List Entry) (x : ℕ) (row : ExecutionRow) → find (is_execution x) (folded_rows catalogue past).executions ≡ Some row → IsRowAt catalogue past x row
row-at catalogue past x row found =
    let from : IsRowOf catalogue past row = row-of catalogue past (is_execution x) row found in
    let number : row.execution ≡ x = eqb-true row.execution x (found-passes (is_execution x) (folded_rows catalogue past).executions row found) in
    record {
      one = from.one;
      number = sym (ap (λ (r : ExecutionRow). r.execution) from.is_row) ∙ number;
      found = from.found;
      is_row = from.is_row;
    }

-- what is older was due too
pub due-older : (limit : ℕ) (catalogue : List JobTree) (more past : List Entry) → AllDue limit catalogue (more ++ past) → AllDue limit catalogue past
due-older limit catalogue [] past due = due
due-older limit catalogue (e ∷ more) past due = due-older limit catalogue more past due.1
