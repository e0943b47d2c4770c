use Rattle.std.proofs.Common.{List, length, refl, sym, ◌∙◌, ap, subst, arith}
use Rattle.std.proofs.lemmas.List.{length_push}
use Rattle.records.specs.Maps.{AreBelow, AreRising}
use Rattle.records.specs.Slots.{rows_in, slot_numbers, AreSlots}
use Rattle.records.specs.declared.row_list.Slot.{Slot}
use Rattle.records.proofs.Slots.{dropped_rows, popped, slots_front}
use Rattle.records.proofs.row_list.drop_from.Goals as goal

pub loop-slots-init : goal.loop-slots-init
loop-slots-init g c = (refl, c.requires.slots, c.requires.room)

pub loop-slots-preserved : goal.loop-slots-preserved
loop-slots-preserved g c =
    let ends = c.ends_from.ensures.ends c.loop-slots-test.true in
    let is = sym c.as_slice.ensures.value ∙ ends.2 in
    let front = c.pop.ensures.rest ∙ popped g.T.Numbered.number c.loop-slots.slots.items ends.0 ends.1 _ is (sym c.as_slice.ensures.len ∙ ap length c.as_slice.ensures.value) in (
      ap rows_in front ∙ dropped_rows g.T.Numbered.number c.args.number c.args.slots.now.items c.loop-slots.slots.items ends.0 ends.1 is c.loop-slots.invariant.0 c.loop-slots.invariant.1 c.requires.above ends.3,
      subst (AreSlots g.T.Numbered.number) (sym front) (slots_front g.T.Numbered.number ends.0 ends.1 (subst (AreSlots g.T.Numbered.number) is c.loop-slots.invariant.1)),
      omega (arith, c.pop.ensures.len, c.pop.ensures.capacity, c.loop-slots.invariant.2),
    )

pub loop-slots-smaller : goal.loop-slots-smaller
loop-slots-smaller g c =
    let ends = c.ends_from.ensures.ends c.loop-slots-test.true in
    let is = sym c.as_slice.ensures.value ∙ ends.2 in
    let front = c.pop.ensures.rest ∙ popped g.T.Numbered.number c.loop-slots.slots.items ends.0 ends.1 _ is (sym c.as_slice.ensures.len ∙ ap length c.as_slice.ensures.value) in
    omega (arith, ap length front, ap length is, length_push ends.0 ends.1)

pub returns : goal.returns
returns g c = record {
  rows = c.loop-slots.invariant.0;
  slots = c.loop-slots.invariant.1;
  above = subst (λ (l : List (Slot g.row.T.Denot)). AreBelow c.args.number (slot_numbers l)) c.as_slice.ensures.value
      (c.ends_from.ensures.below c.loop-slots-test.false (subst (λ (l : List (Slot g.row.T.Denot)). AreRising (slot_numbers l)) (sym c.as_slice.ensures.value) c.loop-slots.invariant.1.rising));
  room = c.loop-slots.invariant.2;
}
