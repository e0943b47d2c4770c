use Rattle.std.proofs.Common.{Bool, List, [], ◌∷◌, cond, filter, sym, ◌∙◌, ap, refl}
use Rattle.batch_history.specs.Answers.{is_running_of, running_executions}
use Rattle.batch_history.specs.declared.rows.ExecutionRow.{ExecutionRow}
use Rattle.records.specs.Maps.{execution_numbers}
use Rattle.records.specs.Slots.{rows_left}
use Rattle.records.proofs.Gathered.{one_more, passed_over, none_left}
use Rattle.records.proofs.running.running_searched.Goals as goal

pub loop-row-preserved-in-Continue-1 : goal.loop-row-preserved-in-Continue-1
loop-row-preserved-in-Continue-1 c =
    let row : ExecutionRow = c.in-Some.row.now in
    let rest : List ExecutionRow = rows_left c.next.new.self in
    let others : List ExecutionRow = filter (is_running_of c.args.name.now) rest in
    one_more (running_executions c.args.name.now) c.loop-row.found.items (row.execution ∷ []) _ _ row (rows_left c.loop-row.row-iterator) rest c.in-Some.ensures.steps
    (ap (λ (b : Bool). execution_numbers (cond b (row ∷ others) others)) (sym c.is_running_of.ensures ∙ c.if-is_running_of.true))
    c.in_ok-push.ensures.items c.loop-row.invariant

pub loop-row-preserved : goal.loop-row-preserved
loop-row-preserved c =
    let row : ExecutionRow = c.in-Some.row.now in
    let rest : List ExecutionRow = rows_left c.next.new.self in
    let others : List ExecutionRow = filter (is_running_of c.args.name.now) rest in
    passed_over (running_executions c.args.name.now) c.loop-row.found.items _ row (rows_left c.loop-row.row-iterator) rest c.in-Some.ensures.steps
    (ap (λ (b : Bool). execution_numbers (cond b (row ∷ others) others)) (sym c.is_running_of.ensures ∙ c.if-is_running_of.false)) c.loop-row.invariant

pub returns : goal.returns
returns c = none_left (running_executions c.args.name.now) c.loop-row.found.items _ (rows_left c.loop-row.row-iterator) c.in-None.ensures.steps.0 refl c.loop-row.invariant
