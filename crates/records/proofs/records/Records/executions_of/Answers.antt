use Rattle.std.proofs.Common.{◌≡◌, ℕ, List, ◌∙◌, ap, subst}
use Rattle.records.specs.Indexes.{numbers_under}
use Rattle.records.specs.Left.{executions_of, executions_numbered}
use Rattle.records.specs.Maps.{Maps}
use Rattle.records.proofs.Indexing.{executions_found}
use Rattle.records.proofs.records.Records.executions_of.Goals as goal

pub returns : goal.returns
returns c =
    let under : ℕ → List ℕ = numbers_under c.self.inside.executions_by_instance in
    c.new.ensures
    ∙ (ap (λ (ns : List ℕ). executions_numbered ns c.args.self.now.executions) (c.under.ensures ∙ ap under c.value.ensures)
    ∙ subst (λ (m : Maps). executions_numbered (under c.args.i) m.executions ≡ executions_of c.args.i m.executions) c.self.view_is (executions_found _ _ _ _ c.args.i c.self.invariant.0))
