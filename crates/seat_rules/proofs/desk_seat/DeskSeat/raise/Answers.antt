use Rattle.std.proofs.Common.{ℕ, length, sym, ap, ◌∙◌, subst, arith}
use Rattle.seat_rules.specs.Places.{Known, Place}
use Rattle.seat_rules.specs.Views.{HasStop, known_in}
use Rattle.seat_rules.proofs.Stopping.{raises}
use Rattle.seat_rules.proofs.desk_seat.DeskSeat.raise.Goals as goal

pub store-requires : goal.store-requires
store-requires g c =
    let i = c.self.invariant in
    let w = c.table.invariant in
    let b = c.stop_word.ensures.place in
    let place = ap (λ (p : Place). p.table) (c.table.view_is ∙ c.requires.table) in
    let stop = subst (λ (p : Known × ℕ). HasStop p.0.log (length p.0.log) p.1) (λ i. (sym c.self.view_is i, sym c.value.ensures i)) c.requires.stopped in
    (i.0 ∙ sym place, omega arith, raises _ _ _ (known_in c.self.inside.seat.me.0) _ _ _ i.1 b.0 stop)
