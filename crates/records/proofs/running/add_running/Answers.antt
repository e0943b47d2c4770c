use Rattle.std.proofs.Common.{◌++◌, ◌∷◌, [], sym, ◌∙◌, ap, subst, ◌≡◌, true}
use Rattle.batch_ids.specs.Statuses.{is_unfinished}
use Rattle.batch_history.specs.Replies.{row_status}
use Rattle.batch_history.specs.declared.rows.ExecutionRow.{ExecutionRow}
use Rattle.records.specs.Indexes.{AreRunning}
use Rattle.records.proofs.running.add_running.Goals.{in-Some, in-None}
use Rattle.records.proofs.Outcomes.{when_true}
use Rattle.records.proofs.Unfinished.{finished_added, running_added}
use Rattle.records.proofs.running.add_running.Goals as goal

pub returns-then-not-is_unfinished : goal.returns-then-not-is_unfinished
returns-then-not-is_unfinished c = λ rows known.
    finished_added c.args.running.now c.args.row.now rows
    (ap is_unfinished (sym c.status.ensures) ∙ (sym c.is_unfinished.ensures ∙ c.if-not-is_unfinished.true)) known

pub returns-then-not-added : goal.returns-then-not-added
returns-then-not-added c = λ rows known. subst (λ r. AreRunning r (rows ++ c.args.row.now ∷ [])) (sym c.forget.ensures) tt

pub returns-else-not-added : goal.returns-else-not-added
returns-else-not-added c = λ rows known.
    let row : ExecutionRow = c.args.row.now in
    let live : is_unfinished (row_status row) ≡ true = ap is_unfinished (sym c.status.ensures) ∙ (sym c.is_unfinished.ensures ∙ c.if-not-is_unfinished.false) in
    elim c.match-as_mut.branch [
      | in-Some w ↦
          let added = sym w.added-is ∙ c.if-not-added.false in
          subst (λ r. AreRunning r (rows ++ row ∷ [])) (sym w.running-is)
          (running_added w.in-Some.lists.now w.push-added.new.self row rows live (subst (λ r. AreRunning r rows) (sym w.in-Some.ensures.value) known)
          (when_true _ _ added w.push-added.ensures.named) (when_true _ _ added w.push-added.ensures.owned))
      | in-None w ↦ subst (λ r. AreRunning r (rows ++ row ∷ [])) (w.in-None.ensures.value ∙ sym w.running-is) tt
    ]
