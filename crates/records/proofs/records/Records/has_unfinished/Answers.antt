use Rattle.std.proofs.Common.{◌==◌, List, ℕ, length, not, sym, ◌∙◌, ap, subst}
use Rattle.std.specs.List.{list_any}
use Rattle.batch_history.specs.Replies.{is_running_in}
use Rattle.batch_history.specs.declared.rows.ExecutionRow.{ExecutionRow}
use Rattle.records.specs.Indexes.{AreRunning, numbers_under}
use Rattle.records.specs.Maps.{Maps}
use Rattle.records.proofs.Unfinished.{some_open}
use Rattle.records.proofs.records.Records.has_unfinished.Goals as goal

pub returns-in-Some : goal.returns-in-Some
returns-in-Some c =
    let rows : List ExecutionRow = c.self.inside.executions.rows in
    let known = subst (λ r. AreRunning r rows) (sym c.in-Some.ensures.value) c.self.invariant.3 in
    ap not
    (c.is_empty.ensures
    ∙ ap (λ (ns : List ℕ). length ns == 0) (c.of_instance.ensures ∙ (ap (numbers_under c.in-Some.lists.now.by_instance) c.value.ensures ∙ known.1 c.args.i)))
    ∙ (some_open c.args.i rows ∙ ap (λ (m : Maps). list_any (is_running_in c.args.i) m.executions) c.self.view_is)
