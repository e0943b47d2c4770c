use Rattle.std.proofs.Common.{◌≡◌, ℕ, List, ◌∙◌, ap, subst}
use Rattle.batch_history.specs.Answers.{instances_of_job}
use Rattle.records.specs.Indexes.{numbers_named}
use Rattle.records.specs.Left.{instances_numbered}
use Rattle.records.specs.Maps.{Maps}
use Rattle.records.proofs.Indexing.{instances_found}
use Rattle.records.proofs.records.Records.instances_of.Goals as goal

pub returns-clause-named : goal.returns-clause-named
returns-clause-named c =
    let named : List ℕ → List ℕ = numbers_named c.self.inside.instances_by_name in
    c.new.ensures
    ∙ (ap (λ (ns : List ℕ). instances_numbered ns c.args.self.now.instances) c.under.ensures
    ∙ subst (λ (m : Maps). instances_numbered (named c.args.name.now) m.instances ≡ instances_of_job c.args.name.now m.instances) c.self.view_is (instances_found _ _ _ _ c.args.name.now c.self.invariant.0))
