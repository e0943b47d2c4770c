use Rattle.std.proofs.Common.{◌≡◌, ℕ, ◌==◌, List, [], ◌∷◌, ◌++◌, cond, subst}
use Rattle.std.specs.Result.{OnOk}
use Rattle.records.specs.Indexes.{numbers_under}
use Rattle.records.proofs.Outcomes.{on_ok}
use Rattle.records.proofs.index_rows.index_execution.Goals as goal

pub returns : goal.returns
returns c =
    let before : ℕ → List ℕ = numbers_under c.args.by_instance.now in
    let after : ℕ → List ℕ = numbers_under c.push.new.self in
    record {
      rows = c.in_ok-reserve.ensures.rows;
      few = on_ok c.push.result _ c.in_ok-reserve.ensures.few;
      room = on_ok c.push.result _ c.in_ok-reserve.ensures.room;
      owned = subst (λ (n : ℕ). OnOk c.push.result ((q : ℕ) → after q ≡ cond (c.args.row.now.instance == q) (before q ++ n ∷ []) (before q))) c.value-2.ensures
          (subst (λ (i : ℕ). OnOk c.push.result ((q : ℕ) → after q ≡ cond (i == q) (before q ++ c.value-2.result ∷ []) (before q))) c.value.ensures c.push.ensures.added);
      unowned = c.push.ensures.unchanged;
    }
