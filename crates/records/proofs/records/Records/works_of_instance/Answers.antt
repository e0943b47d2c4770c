use Rattle.std.proofs.Common.{◌≡◌, ℕ, List, ◌∙◌, ap, subst}
use Rattle.std.specs.List.{flat_map}
use Rattle.std.proofs.lemmas.Result.{IfOk-weaker}
use Rattle.records.specs.Indexes.{numbers_under}
use Rattle.records.specs.Left.{works_numbered, works_of_instance}
use Rattle.records.specs.Maps.{Maps, AreRising}
use Rattle.records.proofs.Indexing.{works_gathered}
use Rattle.records.proofs.records.Records.works_of_instance.Goals as goal

pub returns-then-are_rising : goal.returns-then-are_rising
returns-then-are_rising c =
    let executions : ℕ → List ℕ = numbers_under c.self.inside.executions_by_instance in
    let works : ℕ → List ℕ = numbers_under c.self.inside.works_by_execution in
    let gathered = c.in_ok-numbers.ensures ∙ ap (λ (i : ℕ). flat_map works (executions i)) c.value.ensures in
    let up = subst AreRising c.as_slice.ensures.value (c.are_rising.ensures c.if-are_rising.true) in
    let all = subst (λ (m : Maps). works_numbered c.in_ok-numbers.numbers.items m.works ≡ works_of_instance c.args.i m.executions m.works) c.self.view_is
    (works_gathered _ _ executions works c.args.i c.in_ok-numbers.numbers.items c.self.invariant.0 gathered up) in
    IfOk-weaker c.works_numbered.result _ _
    (λ found is. is ∙ (ap (λ (ns : List ℕ). works_numbered ns c.args.self.now.works) c.as_slice-then-are_rising.ensures.value ∙ all)) c.works_numbered.ensures
