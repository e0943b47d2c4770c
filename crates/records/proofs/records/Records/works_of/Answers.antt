use Rattle.std.proofs.Common.{◌≡◌, ℕ, List, ◌∙◌, ap, subst}
use Rattle.records.specs.Indexes.{numbers_under}
use Rattle.records.specs.Left.{works_of, works_numbered}
use Rattle.records.specs.Maps.{Maps}
use Rattle.records.proofs.Indexing.{works_found}
use Rattle.records.proofs.records.Records.works_of.Goals as goal

pub returns : goal.returns
returns c =
    let under : ℕ → List ℕ = numbers_under c.self.inside.works_by_execution in
    c.new.ensures
    ∙ (ap (λ (ns : List ℕ). works_numbered ns c.args.self.now.works) (c.under.ensures ∙ ap under c.value.ensures)
    ∙ subst (λ (m : Maps). works_numbered (under c.args.x) m.works ≡ works_of c.args.x m.works) c.self.view_is (works_found _ _ _ _ c.args.x c.self.invariant.0))
