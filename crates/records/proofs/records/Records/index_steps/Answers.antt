use Rattle.std.proofs.Common.{ℕ, sym, subst}
use Rattle.records.specs.Indexes.{AreStepsOf, has_steps, numbers_named, numbers_of_step}
use Rattle.records.specs.Maps.{Maps}
use Rattle.records.proofs.Stepped.{looked_up}
use Rattle.records.proofs.records.Records.index_steps.Goals as goal

pub invariant_of-self : goal.invariant_of-self
invariant_of-self c =
    let inside : Maps = record { instances = c.self.inside.instances.rows; executions = c.self.inside.executions.rows; works = c.self.inside.works.rows; checkpoints = c.self.inside.checkpoints } in
    let own = subst (λ (m : Maps). AreStepsOf c.args.i m (numbers_named c.in_ok-names.names)) (sym c.self.view_is) c.in_ok-names.ensures in (
      c.self.invariant.0,
      looked_up inside (numbers_of_step c.self.inside.works_by_step) (numbers_of_step c.put.new.self) (has_steps c.self.inside.works_by_step) (has_steps c.put.new.self) c.value-2.result
          (numbers_named c.in_ok-names.names) c.put.result c.self.invariant.1 (subst (λ (i : ℕ). AreStepsOf i inside (numbers_named c.in_ok-names.names)) (sym c.value-2.ensures) own)
          c.put.ensures.has c.put.ensures.lists c.put.ensures.had c.put.ensures.unchanged,
      c.self.invariant.2,
      c.self.invariant.3,
    )
