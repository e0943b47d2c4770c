use Rattle.std.proofs.Common.{length, sym, ap, ◌∙◌}
use Rattle.std.proofs.lemmas.Bool.{ltb-true}
use Rattle.records.specs.contracts.row_list.gapless_place.{T-type}
use Rattle.records.specs.declared.row_list.Slot.{Slot}
use Rattle.records.proofs.Numbered.{at_place}
use Rattle.records.proofs.row_list.gapless_place.Goals as goal

pub returns-then-slot-number : goal.returns-then-slot-number
returns-then-slot-number g c rising =
    let found = c.in_ok-slot.ensures.lookup in
    at_place (λ (slot : Slot (T-type g.row.T)). slot.number) c.args.slots.now c.args.number c.in_ok-place.place c.in_ok-slot.slot.now rising
    (ltb-true c.in_ok-place.place (length c.args.slots.now) (sym found.0))
    (ap (λ (slot : Slot (T-type g.row.T)). slot.number) (sym found.1) ∙ c.if-slot-number.true)
