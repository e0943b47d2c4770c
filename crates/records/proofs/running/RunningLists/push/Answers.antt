use Rattle.std.proofs.Common.{◌≡◌, ℕ, ◌==◌, List, [], ◌∷◌, ◌++◌, bytes_eq, cond, ◌∙◌, ap, subst}
use Rattle.std.specs.Result.{OnOk}
use Rattle.records.specs.Indexes.{numbers_running, numbers_under}
use Rattle.records.proofs.Outcomes.{on_true, true_where_ok}
use Rattle.records.proofs.running.RunningLists.push.Goals as goal

pub returns-then-push-clause-named : goal.returns-then-push-clause-named
returns-then-push-clause-named c =
    let before : List ℕ → List ℕ = numbers_running c.args.self.now.by_name in
    on_true c.is_ok.result _
    (λ q. c.if-push.ensures q
    ∙ (ap (λ (name : List ℕ). cond (bytes_eq name q) (before q ++ c.value-x.result ∷ []) (before q)) c.as_str.ensures.same
    ∙ ap (λ (n : ℕ). cond (bytes_eq c.args.row.now.job q) (before q ++ n ∷ []) (before q)) c.value-x.ensures))

pub returns-then-push-clause-owned : goal.returns-then-push-clause-owned
returns-then-push-clause-owned c =
    let before : ℕ → List ℕ = numbers_under c.args.self.now.by_instance in
    let after : ℕ → List ℕ = numbers_under c.push-then-push.new.self in
    true_where_ok c.push-then-push.result c.is_ok.result _ c.is_ok.ensures.value
    (subst (λ (n : ℕ). OnOk c.push-then-push.result ((q : ℕ) → after q ≡ cond (c.args.row.now.instance == q) (before q ++ n ∷ []) (before q))) c.value-x.ensures
    (subst (λ (i : ℕ). OnOk c.push-then-push.result ((q : ℕ) → after q ≡ cond (i == q) (before q ++ c.value-x.result ∷ []) (before q))) c.value.ensures c.push-then-push.ensures.added))
