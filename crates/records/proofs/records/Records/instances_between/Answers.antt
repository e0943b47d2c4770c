use Rattle.std.proofs.Common.{ℕ, List, ◌-◌, take, drop, sym, ◌∙◌, ap}
use Rattle.batch_history.specs.Answers.{instances_of_job}
use Rattle.records.specs.Left.{instances_numbered}
use Rattle.records.specs.Maps.{Maps}
use Rattle.records.proofs.Slices.{instances_sliced}
use Rattle.records.proofs.records.Records.instances_between.Goals as goal

pub returns : goal.returns
returns c =
    let q : List ℕ = c.args.name.now in
    let from : ℕ = c.args.from in
    let count : ℕ = c.args.to - c.args.from in
    c.new.ensures
    ∙ (ap (λ (m : Maps). instances_numbered (take count (drop from c.under.result.now)) m.instances) (sym c.self.view_is)
    ∙ (ap (λ (ns : List ℕ). instances_numbered (take count (drop from ns)) c.self.inside.instances.rows) c.under.ensures
    ∙ (instances_sliced _ _ _ _ q from count c.self.invariant.0
    ∙ ap (λ (m : Maps). take count (drop from (instances_of_job q m.instances))) c.self.view_is)))
