use Rattle.std.proofs.Common.{◌≡◌, ℕ, ◌==◌, ◌&&◌, Option, true, List, [], ◌∷◌, ◌++◌, bytes_eq, cond, refl, sym, ap, subst}
use Rattle.std.specs.Result.{OnOk}
use Rattle.batch_history.specs.Lists.{is_at}
use Rattle.records.specs.Indexes.{has_steps, numbers_of_step, numbers_under}
use Rattle.records.proofs.Outcomes.{on_ok, on_err}
use Rattle.records.proofs.index_rows.index_work.Goals as goal

pub returns-in-Some : goal.returns-in-Some
returns-in-Some c =
    let before : ℕ → List ℕ → List ℕ = numbers_of_step c.args.by_step.now in
    let after : ℕ → List ℕ → List ℕ = numbers_of_step c.index_step.new.by_step in
    record {
      rows = c.in_ok-reserve.ensures.rows;
      room = on_ok c.index_step.result _ c.in_ok-reserve.ensures.room;
      has = c.index_step.ensures.has;
      stepped = subst (λ (owner : Option ℕ). OnOk c.index_step.result ((i : ℕ) (q : List ℕ) → has_steps c.args.by_step.now i ≡ true
          → after i q ≡ cond (is_at i owner && bytes_eq c.args.row.now.element q) (before i q ++ c.args.row.now.work ∷ []) (before i q))) (sym c.in-Some.is)
          (subst (λ (owner : ℕ). OnOk c.index_step.result ((i : ℕ) (q : List ℕ) → has_steps c.args.by_step.now i ≡ true
          → after i q ≡ cond (owner == i && bytes_eq c.args.row.now.element q) (before i q ++ c.args.row.now.work ∷ []) (before i q))) c.value.ensures c.index_step.ensures.stepped);
      owned = c.index_step.ensures.owned;
      unstepped = c.index_step.ensures.unstepped;
      unowned = c.index_step.ensures.unowned;
    }

pub returns-in-None : goal.returns-in-None
returns-in-None c =
    let numbers : ℕ → List ℕ → List ℕ = numbers_of_step c.args.by_step.now in
    let before : ℕ → List ℕ = numbers_under c.args.by_execution.now in
    let after : ℕ → List ℕ = numbers_under c.push.new.self in
    record {
      rows = c.in_ok-reserve.ensures.rows;
      room = on_ok c.push.result _ c.in_ok-reserve.ensures.room;
      has = λ i. refl;
      stepped = on_ok c.push.result _
          (λ i q there. sym (ap (λ (owner : Option ℕ). cond (is_at i owner && bytes_eq c.args.row.now.element q) (numbers i q ++ c.args.row.now.work ∷ []) (numbers i q)) c.in-None.is));
      owned = subst (λ (n : ℕ). OnOk c.push.result ((q : ℕ) → after q ≡ cond (c.args.row.now.execution == q) (before q ++ n ∷ []) (before q))) c.value-in-None-2.ensures
          (subst (λ (x : ℕ). OnOk c.push.result ((q : ℕ) → after q ≡ cond (x == q) (before q ++ c.value-in-None-2.result ∷ []) (before q))) c.value-in-None.ensures c.push.ensures.added);
      unstepped = on_err c.push.result _ (λ i q there. refl);
      unowned = c.push.ensures.unchanged;
    }
