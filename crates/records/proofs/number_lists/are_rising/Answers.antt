use Rattle.std.proofs.Common.{ℕ, List, suc, ◌≡◌, ◌-◌, length, arith}
use Rattle.records.proofs.Indexed.{last_rises, one_more_rises}
use Rattle.records.proofs.number_lists.are_rising.Goals as goal

pub loop-place-init : goal.loop-place-init
loop-place-init c = record { within = omega arith; rising = last_rises c.args.numbers.now (length c.args.numbers.now - 1) (omega arith) }

pub loop-place-preserved : goal.loop-place-preserved
loop-place-preserved c =
    let numbers : List ℕ = c.args.numbers.now in
    let p : ℕ = c.loop-place.place in
    let last : p - 1 ≡ suc (p - 1 - 1) = omega (arith, c.loop-place-test.true) in
    record {
      within = omega (arith, c.loop-place.invariant.within);
      rising = one_more_rises numbers (p - 1 - 1) (p - 1) 0 last (omega (arith, c.loop-place.invariant.within, c.loop-place-test.true))
          c.loop-place.invariant.rising (omega (arith, c.if-numbers-place.false));
    }
