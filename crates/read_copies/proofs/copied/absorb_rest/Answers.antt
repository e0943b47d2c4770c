use Rattle.std.proofs.Common.{◌+◌, ◌-◌, ◌++◌, ◌∷◌, [], take, slice_get, List, ◌≡◌, ℕ, refl, sym, ◌∙◌, ap, subst, arith}
use Rattle.batch_history.specs.declared.call.Entry.{Entry}
use Rattle.jsl_model.specs.Jobs.{JobTree}
use Rattle.op_log.proofs.Taking.{take-next}
use Rattle.seat_rules.specs.Places.{IsLegalLog}
use Rattle.seat_rules.proofs.Prefixes.{prefix_take, legal_prefix}
use Rattle.read_copies.proofs.copied.absorb_rest.Goals as goal

next_legal : (catalogue : List JobTree) (log : List Entry) (n : ℕ) (e : Entry) → IsLegalLog catalogue log → take (n + 1) log ≡ take n log ++ e ∷ []
    → IsLegalLog catalogue (take n log ++ e ∷ [])
next_legal catalogue log n e legal is = subst (IsLegalLog catalogue) is (legal_prefix catalogue (take (n + 1) log) log (prefix_take (n + 1) log) legal)

pub absorb-requires : goal.absorb-requires
absorb-requires g c =
    let log = c.args.desk.now.log in
    let n = c.loop-number.number in
    let back : n ≡ n + 1 - 1 = omega arith in
    let next = take-next log n _ (ap (slice_get log) back ∙ sym (c.in-Some.ensures.some (omega arith))) in
    record { next = (g.N.Site.place.catalogue, take n log, c.loop-number.invariant.stands, next_legal _ log n _ c.len-end.ensures.legal next) }

pub loop-number-preserved : goal.loop-number-preserved
loop-number-preserved g c =
    let log = c.args.desk.now.log in
    let n = c.loop-number.number in
    let catalogue = g.N.Site.place.catalogue in
    let i = c.loop-number.invariant in
    let m = i.more in
    let back : n ≡ n + 1 - 1 = omega arith in
    let next = take-next log n _ (ap (slice_get log) back ∙ sym (c.in-Some.ensures.some (omega arith))) in
    let s = c.in_ok-absorb.ensures.absorbed catalogue (take n log) i.stands (next_legal catalogue log n _ c.len-end.ensures.legal next) in
    record {
      stands = subst (g.S.Absorb.stands c.absorb.new.self catalogue) (sym next) s;
      at = refl;
      more = omega arith;
      short = omega arith;
    }
