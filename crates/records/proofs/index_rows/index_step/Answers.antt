use Rattle.std.proofs.Common.{ℕ, List, [], ◌∷◌, ◌++◌, ◌==◌, ◌&&◌, cond, bytes_eq, ◌∙◌, ap}
use Rattle.records.specs.Indexes.{has_steps, numbers_of_step, numbers_under, without_number}
use Rattle.records.proofs.Stepped.{undone_step}
use Rattle.records.proofs.index_rows.index_step.Goals as goal

pub returns-in-Ok : goal.returns-in-Ok
returns-in-Ok c =
    let before : ℕ → List ℕ → List ℕ = numbers_of_step c.args.by_step.now in
    let owned : ℕ → List ℕ = numbers_under c.args.by_execution.now in
    let owner : ℕ = c.args.owner in
    record {
      has = c.push.ensures.has;
      stepped = λ i q there. c.in_ok-push.ensures.added i q there
          ∙ (ap (λ (name : List ℕ). cond (owner == i && bytes_eq name q) (before i q ++ c.value.result ∷ []) (before i q)) c.as_str-step.ensures.same
          ∙ ap (λ (n : ℕ). cond (owner == i && bytes_eq c.args.row.now.element q) (before i q ++ n ∷ []) (before i q)) c.value.ensures);
      owned = λ q. c.in-Ok.ensures.added q
          ∙ (ap (λ (key : ℕ). cond (key == q) (owned q ++ c.value-3.result ∷ []) (owned q)) c.value-2.ensures
          ∙ ap (λ (n : ℕ). cond (c.args.row.now.execution == q) (owned q ++ n ∷ []) (owned q)) c.value-3.ensures);
      unstepped = tt;
      unowned = tt;
    }

pub returns-in-Err : goal.returns-in-Err
returns-in-Err c =
    let before : ℕ → List ℕ → List ℕ = numbers_of_step c.args.by_step.now in
    let middle : ℕ → List ℕ → List ℕ = numbers_of_step c.push.new.self in
    let owner : ℕ = c.args.owner in
    let step : List ℕ = c.args.row.now.element in
    record {
      has = λ i. c.leave_out.ensures.has i ∙ c.push.ensures.has i;
      stepped = tt;
      owned = tt;
      unstepped = undone_step before middle _ (has_steps c.args.by_step.now) owner step c.args.row.now.work c.requires
          (λ i q there. c.in_ok-push.ensures.added i q there
          ∙ (ap (λ (name : List ℕ). cond (owner == i && bytes_eq name q) (before i q ++ c.value.result ∷ []) (before i q)) c.as_str-step.ensures.same
          ∙ ap (λ (n : ℕ). cond (owner == i && bytes_eq step q) (before i q ++ n ∷ []) (before i q)) c.value.ensures))
          (λ i q. c.leave_out.ensures.left i q
          ∙ (ap (λ (name : List ℕ). cond (owner == i && bytes_eq name q) (without_number c.value-in-Err.result (middle i q)) (middle i q)) c.as_str-step.ensures.same
          ∙ ap (λ (n : ℕ). cond (owner == i && bytes_eq step q) (without_number n (middle i q)) (middle i q)) c.value-in-Err.ensures));
      unowned = c.in-Err.ensures.unchanged;
    }
