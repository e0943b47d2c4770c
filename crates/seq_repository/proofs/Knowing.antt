-- What is known of the elements of a job execution after a work item is added or reported of.
use Rattle.std.proofs.Common.{◌≡◌, ℕ, ◌==◌, Bool, true, false, cond, Some, find, List, [], ◌∷◌, refl, sym, ◌∙◌, ap}
use Rattle.batch_ids.specs.declared.metric_step.MetricStep.{MetricStep}
use Rattle.batch_history.specs.declared.rows.WorkRow.{WorkRow}
use Rattle.batch_history.specs.NextRows.{reported}
use Rattle.batch_history.specs.Lists.{change_first}
use Rattle.batch_history.specs.Walks.{fact_of_state, known_elements}
use Rattle.batch_history.specs.Works.{work_key}
use Rattle.seq_repository.proofs.Entries.{change-found}
use Rattle.walk_rules.specs.declared.facts.Known.{Known}

-- what is reported of a work item says nothing of its element
pub known_reported : (x : ℕ) (p : WorkRow → Bool) (step : MetricStep) (works : List WorkRow)
    → known_elements x works ≡ known_elements x (change_first p (reported step) works)
known_reported x p step [] = refl
known_reported x p step (w ∷ ws) =
    let k : Known = record { key = work_key w; fact = fact_of_state w.state } in
    elim (p w) as (λ b. known_elements x (w ∷ ws) ≡ known_elements x (cond b (reported step w ∷ ws) (w ∷ change_first p (reported step) ws))) [
      | true ↦ refl
      | false ↦ ap (λ (ks : List Known). cond (w.execution == x) (k ∷ ks) ks) (known_reported x p step ws)
    ]

-- nor does the work item in its place
pub known_put : (p : WorkRow → Bool) (step : MetricStep) (works : List WorkRow) (row new : WorkRow) → find p works ≡ Some row → new ≡ reported step row
    → (x : ℕ) → known_elements x (change_first p (λ gone. new) works) ≡ known_elements x works
known_put p step works row new found is = λ x.
    ap (λ (w : WorkRow). known_elements x (change_first p (λ gone. w) works)) is
    ∙ (ap (known_elements x) (change-found p (reported step) works row found) ∙ sym (known_reported x p step works))
