use Rattle.std.proofs.Common.{◌≡◌, ℕ, ◌+◌, ◌≤◌, List, None, Some, true, false, find, is_some, length, sym, ◌∙◌, ap, subst, arith}
use Rattle.std.specs.Option.{option_copied}
use Rattle.batch_history.specs.Lists.{change_first}
use Rattle.batch_history.specs.Replies.{is_execution}
use Rattle.batch_history.specs.declared.rows.ExecutionRow.{ExecutionRow}
use Rattle.records.specs.Maps.{Maps, MayReplaceExecution}
use Rattle.records.proofs.Numbered.{execution_kept, execution_is}
use Rattle.records.proofs.Indexing.{execution_replaced}
use Rattle.records.specs.Indexes.{AreIndexed, AreRunning, numbers_named, numbers_under, AreStepped, has_steps, numbers_of_step}
use Rattle.batch_history.specs.Answers.{counted, counts_of, total, with_one_more}
use Rattle.batch_history.specs.Replies.{row_status}
use Rattle.records.proofs.Stepped as stepped
use Rattle.batch_ids.specs.Statuses.{is_unfinished}
use Rattle.records.proofs.Tallies.{counts_changed, found_there, total_less}
use Rattle.records.proofs.records.Records.change_execution.Goals as goal

pub unreachable-requires : goal.unreachable-requires
unreachable-requires c =
    let rows : List ExecutionRow = c.self.inside.executions.rows in
    let may = subst (λ (m : Maps). MayReplaceExecution m.executions c.args.x c.args.row) (sym c.self.view_is) c.requires in
    let none : find (is_execution c.args.x) rows ≡ None =
    ap (λ n. find (is_execution n) rows) (sym c.value.ensures) ∙ (sym c.get.ensures.row ∙ ap option_copied c.in_default.is) in
    let no : false ≡ true = ap is_some (sym none ∙ may.1) in
    cc

pub remove-requires : goal.remove-requires
remove-requires c =
    let rows : List ExecutionRow = c.self.inside.executions.rows in
    let old : ExecutionRow = c.in-Some.old.now in
    let found : find (is_execution c.args.x) rows ≡ Some old =
    ap (λ n. find (is_execution n) rows) (sym c.value.ensures) ∙ (sym c.get.ensures.row ∙ ap option_copied c.in-Some.is) in
    subst (λ s. 1 ≤ counted s c.self.inside.counts) (sym c.status-was.ensures) (found_there (is_execution c.args.x) old rows c.self.inside.counts found c.self.invariant.2)

pub add-requires : goal.add-requires
add-requires c =
    let rows : List ExecutionRow = c.self.inside.executions.rows in
    let old : ExecutionRow = c.in-Some.old.now in
    let found : find (is_execution c.args.x) rows ≡ Some old =
    ap (λ n. find (is_execution n) rows) (sym c.value.ensures) ∙ (sym c.get.ensures.row ∙ ap option_copied c.in-Some.is) in
    let more : c.self.inside.counts ≡ with_one_more (row_status old) c.remove.new.self = c.remove.ensures ∙ ap (λ s. with_one_more s c.remove.new.self) c.status-was.ensures in
    let all : total c.remove.new.self + 1 ≡ length rows = total_less (is_execution c.args.x) old rows c.self.inside.counts c.remove.new.self found c.self.invariant.2 more in
    omega (arith, all, c.get.ensures.few)

pub put-requires-clause-there : goal.put-requires-clause-there
put-requires-clause-there c =
    let may = subst (λ (m : Maps). MayReplaceExecution m.executions c.args.x c.args.row) (sym c.self.view_is) c.requires in
    ap (λ n. is_some (find (is_execution n) c.self.inside.executions.rows)) c.value-2.ensures ∙ ap is_some may.1

pub put-requires-clause-same : goal.put-requires-clause-same
put-requires-clause-same c =
    let may = subst (λ (m : Maps). MayReplaceExecution m.executions c.args.x c.args.row) (sym c.self.view_is) c.requires in
    execution_is c.self.inside.executions.rows c.args.x c.args.row may ∙ sym c.value-2.ensures

pub invariant_of-self : goal.invariant_of-self
invariant_of-self c =
    let rows : List ExecutionRow = c.self.inside.executions.rows in
    let old : ExecutionRow = c.in-Some.old.now in
    let found : find (is_execution c.args.x) rows ≡ Some old =
    ap (λ n. find (is_execution n) rows) (sym c.value.ensures) ∙ (sym c.get.ensures.row ∙ ap option_copied c.in-Some.is) in
    let may = subst (λ (m : Maps). MayReplaceExecution m.executions c.args.x c.args.row) (sym c.self.view_is) c.requires in
    let placed = c.put.ensures ∙ ap (λ n. change_first (is_execution n) (λ gone. c.args.row) rows) c.value-2.ensures in
    let rises = execution_kept rows c.args.x c.args.row c.self.invariant.0.keyed.executions may in
    let more : c.self.inside.counts ≡ with_one_more (row_status old) c.remove.new.self = c.remove.ensures ∙ ap (λ s. with_one_more s c.remove.new.self) c.status-was.ensures in
    let same : may.0 ≡ old = let both : Some may.0 ≡ Some old = sym may.1 ∙ found in cc in
    let numbered : c.args.row.execution ≡ c.args.x = execution_is rows c.args.x c.args.row may in (
      subst (λ (l : List ExecutionRow).
          AreIndexed record { instances = c.self.inside.instances.rows; executions = l; works = c.self.inside.works.rows; checkpoints = c.self.inside.checkpoints }
          (numbers_named c.self.inside.instances_by_name) (numbers_under c.self.inside.executions_by_instance) (numbers_under c.self.inside.works_by_execution)) (sym placed)
          (execution_replaced _ _ _ _ c.args.x c.args.row c.self.invariant.0 rises may),
      subst (λ (l : List ExecutionRow). AreStepped record { instances = c.self.inside.instances.rows; executions = l; works = c.self.inside.works.rows; checkpoints = c.self.inside.checkpoints } (numbers_of_step c.self.inside.works_by_step) (has_steps c.self.inside.works_by_step)) (sym placed)
          (stepped.execution_changed record { instances = c.self.inside.instances.rows; executions = c.self.inside.executions.rows; works = c.self.inside.works.rows; checkpoints = c.self.inside.checkpoints } (numbers_of_step c.self.inside.works_by_step) (has_steps c.self.inside.works_by_step) c.args.x c.args.row c.self.invariant.1 may),
      c.add.ensures
          ∙ (ap (λ s. with_one_more s c.remove.new.self) c.status.ensures
          ∙ (counts_changed (is_execution c.args.x) old c.args.row rows c.self.inside.counts c.remove.new.self found c.self.invariant.2 more ∙ ap counts_of (sym placed))),
      subst (λ (l : List ExecutionRow). AreRunning c.change_running.new.running l) (sym placed)
          (subst (λ (n : ℕ). AreRunning c.change_running.new.running (change_first (is_execution n) (λ gone. c.args.row) rows)) numbered
          (c.change_running.ensures rows old (subst (λ (n : ℕ). find (is_execution n) rows ≡ Some old) (sym numbered) found) (ap (λ (r : ExecutionRow). r.job) (sym same) ∙ sym may.2.job) (ap (λ (r : ExecutionRow). r.instance) (sym same) ∙ sym may.2.instance)
          (c.is_unfinished.ensures ∙ ap is_unfinished c.status-was.ensures) c.self.invariant.3)),
    )

pub returns : goal.returns
returns c =
    let rows : List ExecutionRow = c.self.inside.executions.rows in
    ap (λ (l : List ExecutionRow). record { instances = c.self.inside.instances.rows; executions = l; works = c.self.inside.works.rows; checkpoints = c.self.inside.checkpoints })
    (c.put.ensures ∙ ap (λ n. change_first (is_execution n) (λ gone. c.args.row) rows) c.value-2.ensures)
    ∙ ap (λ (m : Maps). record m { executions = change_first (is_execution c.args.x) (λ old. c.args.row) m.executions }) c.self.view_is
