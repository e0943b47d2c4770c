use Rattle.std.proofs.Common.{length, sym, ap, subst, arith}
use Rattle.batch_ids.specs.Parameters.{AreParameters}
use Rattle.batch_ids.proofs.Placed.{kept_in_place, kept_with_one}
use Rattle.batch_ids.proofs.parameters.SortedParameters.put.Goals as goal

pub invariant_of-self : goal.invariant_of-self
invariant_of-self c =
    kept_in_place _ _ c.in-Ok.at _ _ _ _ c.self.view_is c.in_ok-new.ensures.same c.in_ok-new-2.ensures.same
    c.place.ensures.kept (c.in-Ok.ensures.held.1 c.args.value.now)

pub invariant_of-self-in-Ok-2 : goal.invariant_of-self-in-Ok-2
invariant_of-self-in-Ok-2 c =
    kept_in_place _ _ c.in-Ok.at _ _ _ _ c.self.view_is c.in_ok-new.ensures.same c.in_ok-new-2.ensures.same
    c.place.ensures.kept (c.in-Ok.ensures.held.1 c.args.value.now)

pub invariant_of-self-in_ok-insert-in-Err : goal.invariant_of-self-in_ok-insert-in-Err
invariant_of-self-in_ok-insert-in-Err c =
    subst AreParameters (sym c.in_ok-insert-in-Err.ensures.items)
    (kept_with_one _ _ c.in-Err.at _ _ _ _ c.self.view_is c.in_ok-new.ensures.same c.in_ok-new-2.ensures.same
    c.place.ensures.kept (omega (arith, ap length c.self.view_is)) c.in-Err.ensures.absent.0 (c.in-Err.ensures.absent.1 c.args.value.now))
