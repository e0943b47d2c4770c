use Rattle.std.proofs.Common.{◌≡◌, ℕ, List, IfOk, sym, ◌∙◌, ap, subst}
use Rattle.batch_history.specs.Answers.{running_executions}
use Rattle.records.specs.Indexes.{AreRunning}
use Rattle.records.specs.Maps.{Maps}
use Rattle.records.proofs.records.Records.running_of.Goals as goal

pub returns-in-Some : goal.returns-in-Some
returns-in-Some c =
    let known = subst (λ r. AreRunning r c.self.inside.executions.rows) (sym c.in-Some.ensures.value) c.self.invariant.3 in
    subst (λ (ns : List ℕ). IfOk c.of_job.result (λ found. found.items ≡ ns))
    (known.0 c.args.name.now ∙ ap (λ (m : Maps). running_executions c.args.name.now m.executions) c.self.view_is) c.of_job.ensures

pub returns-in-None : goal.returns-in-None
returns-in-None c = subst (λ (m : Maps). IfOk c.running_searched.result (λ found. found.items ≡ running_executions c.args.name.now m.executions)) c.self.view_is c.running_searched.ensures
