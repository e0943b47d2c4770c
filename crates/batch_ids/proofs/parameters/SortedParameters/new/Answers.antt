use Rattle.std.proofs.Common.{inl, inr, ◌≡◌, true, ap, sym, ◌∙◌}
use Rattle.std.proofs.lemmas.Result.{err_from_is_err_and}
use Rattle.batch_ids.specs.Parameters.{pairs_of, is_too_large}
use Rattle.batch_ids.proofs.Placed.{too_large-here}
use Rattle.batch_ids.proofs.parameters.SortedParameters.new.Goals as goal

pub returns-in_err-put-clause-fault : goal.returns-in_err-put-clause-fault
returns-in_err-put-clause-fault c =
    let p = err_from_is_err_and c.from_residual.result c.from_residual.ensures.1 in
    rw (p.1, p.2) (elim c.in_err-put.ensures.fault [
      | inl memory ↦ inl memory
      | inr long ↦ inr (
        long.0,
        let all : is_too_large (pairs_of c.deref-pair-items.result.now) ≡ true =
            too_large-here c.deref-pair-items.result.now c.loop-pair.pair-index c.pair-item.result c.loop-pair.made c.as_str.result.now c.as_str-in-loop-pair.result.now
            c.loop-pair-test.true c.loop-pair.invariant.same c.loop-pair.invariant.long c.pair-item.is c.as_str.ensures.value c.as_str-in-loop-pair.ensures.value long.1 in
            ap (λ items. is_too_large (pairs_of items)) (sym c.deref-pair-items.ensures.value) ∙ all,
      )
    ])
