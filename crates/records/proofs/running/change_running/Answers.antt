use Rattle.std.proofs.Common.{◌≡◌, true, false, sym, ◌∙◌, ap, subst}
use Rattle.batch_ids.specs.Statuses.{is_unfinished}
use Rattle.batch_history.specs.Lists.{change_first}
use Rattle.batch_history.specs.Replies.{is_execution, row_status}
use Rattle.batch_history.specs.declared.rows.ExecutionRow.{ExecutionRow}
use Rattle.records.specs.Indexes.{AreRunning}
use Rattle.records.proofs.Unfinished.{one_number, other_truth, running_kept, same_truth}
use Rattle.records.proofs.running.change_running.Goals as goal

pub returns-then-is_unfinished-was_unfinished : goal.returns-then-is_unfinished-was_unfinished
returns-then-is_unfinished-was_unfinished c = λ rows old found job instance was known.
    let row : ExecutionRow = c.args.row.now in
    let now : c.is_unfinished-is_unfinished.result ≡ is_unfinished (row_status row) = c.is_unfinished-is_unfinished.ensures ∙ ap is_unfinished c.status.ensures in
    running_kept c.args.running.now row.execution old row rows found job instance (one_number row.execution old rows found) (sym now ∙ (same_truth _ _ c.if-is_unfinished-was_unfinished.true ∙ was)) known

pub returns-else-is_unfinished : goal.returns-else-is_unfinished
returns-else-is_unfinished c = λ rows old found job instance was known.
    let row : ExecutionRow = c.args.row.now in
    let now : c.is_unfinished-is_unfinished.result ≡ is_unfinished (row_status row) = c.is_unfinished-is_unfinished.ensures ∙ ap is_unfinished c.status.ensures in
    let over : is_unfinished (row_status row) ≡ false = sym now ∙ c.if-is_unfinished.false in
    let before : c.args.was_unfinished ≡ true = other_truth _ _ c.if-is_unfinished-was_unfinished.false c.if-is_unfinished.false in
    c.leave_out.ensures rows old found job instance (sym was ∙ before) over known

pub returns-then-is_unfinished : goal.returns-then-is_unfinished
returns-then-is_unfinished c = λ rows old found job instance was known.
    subst (λ r. AreRunning r (change_first (is_execution c.args.row.now.execution) (λ gone. c.args.row.now) rows)) (sym c.forget.ensures) tt
