use Rattle.std.proofs.Common.{ℕ, ◌==◌, List, [], ◌∷◌, ◌++◌, cond, bytes_eq, ◌∙◌, ap}
use Rattle.records.specs.Indexes.{numbers_named, numbers_under, without_number}
use Rattle.records.proofs.Lists.{undone}
use Rattle.records.proofs.index_rows.index_instance.Goals as goal

pub returns-in-Ok : goal.returns-in-Ok
returns-in-Ok c =
    let names : List ℕ → List ℕ = numbers_named c.args.by_name.now in
    let owned : ℕ → List ℕ = numbers_under c.args.by_instance.now in
    record {
      instances = c.in_ok-reserve.ensures.rows;
      executions = c.in_ok-reserve-2.ensures.rows;
      few = c.in_ok-reserve-2.ensures.few;
      instance_room = c.in_ok-reserve.ensures.room;
      execution_room = c.in_ok-reserve-2.ensures.room;
      named = λ q. c.in_ok-push.ensures.added q
          ∙ (ap (λ (name : List ℕ). cond (bytes_eq name q) (names q ++ c.value.result ∷ []) (names q)) c.as_str-name.ensures.same
          ∙ ap (λ (n : ℕ). cond (bytes_eq c.args.instance.now.job q) (names q ++ n ∷ []) (names q)) c.value.ensures);
      owned = λ q. c.in-Ok.ensures.added q
          ∙ (ap (λ (key : ℕ). cond (key == q) (owned q ++ c.value-3.result ∷ []) (owned q)) c.value-2.ensures
          ∙ ap (λ (n : ℕ). cond (c.args.first.now.instance == q) (owned q ++ n ∷ []) (owned q)) c.value-3.ensures);
      unnamed = tt;
      unowned = tt;
    }

pub returns-in-Err : goal.returns-in-Err
returns-in-Err c =
    let before : List ℕ → List ℕ = numbers_named c.args.by_name.now in
    let middle : List ℕ → List ℕ = numbers_named c.push.new.self in
    let job : List ℕ = c.args.instance.now.job in
    record {
      instances = c.in_ok-reserve.ensures.rows;
      executions = c.in_ok-reserve-2.ensures.rows;
      few = tt;
      instance_room = tt;
      execution_room = tt;
      named = tt;
      owned = tt;
      unnamed = undone before middle _ job c.args.instance.now.instance c.requires
          (λ q. c.in_ok-push.ensures.added q
          ∙ (ap (λ (name : List ℕ). cond (bytes_eq name q) (before q ++ c.value.result ∷ []) (before q)) c.as_str-name.ensures.same
          ∙ ap (λ (n : ℕ). cond (bytes_eq job q) (before q ++ n ∷ []) (before q)) c.value.ensures))
          (λ q. c.remove.ensures q
          ∙ (ap (λ (name : List ℕ). cond (bytes_eq name q) (without_number c.value-in-Err.result (middle q)) (middle q)) c.as_str-name.ensures.same
          ∙ ap (λ (n : ℕ). cond (bytes_eq job q) (without_number n (middle q)) (middle q)) c.value-in-Err.ensures));
      unowned = c.in-Err.ensures.unchanged;
    }
