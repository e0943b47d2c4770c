use Rattle.std.proofs.Common.{◌≡◌, Bool, true, ◌||◌, sym, ◌∙◌, ap}
use Rattle.std.specs.List.{list_any}
use Rattle.batch_ids.specs.Statuses.{is_unfinished}
use Rattle.batch_history.specs.Replies.{row_status}
use Rattle.batch_history.specs.declared.rows.ExecutionRow.{ExecutionRow}
use Rattle.records.specs.Left.{executions_left}
use Rattle.records.proofs.Unfinished.{open_among_own}
use Rattle.records.proofs.records.Records.finds_unfinished.Goals as goal

-- whether a job execution is unfinished
abbrev is_open : ExecutionRow → Bool
is_open row = is_unfinished (row_status row)

pub returns-then-is_unfinished : goal.returns-then-is_unfinished
returns-then-is_unfinished c =
    let live : is_open c.in-Some.row.now ≡ true = sym (c.is_unfinished.ensures ∙ ap is_unfinished c.status.ensures) ∙ c.if-is_unfinished.true in
    sym (ap (λ (b : Bool). b || list_any is_open (executions_left c.next.new.self)) live)
    ∙ (ap (list_any is_open) (sym c.in-Some.ensures.steps) ∙ (c.loop-row.invariant ∙ open_among_own c.args.i c.args.self.now.executions))

pub returns : goal.returns
returns c =
    ap (list_any is_open) (sym c.in-None.ensures.steps.0) ∙ (c.loop-row.invariant ∙ open_among_own c.args.i c.args.self.now.executions)
