use Rattle.std.proofs.Common.{◌≡◌, [], sym, ap, ◌∙◌, arith}
use Rattle.seat_rules.specs.Places.{Known, Place}
use Rattle.seat_rules.specs.Views.{known_in}
use Rattle.seat_rules.proofs.Joining.{joins, looks, learns}
use Rattle.seat_rules.proofs.desk_seat.DeskSeat.host_copy.Goals as goal

pub join_seat-requires : goal.join_seat-requires
join_seat-requires g c =
    let i = c.self.invariant in
    let w = c.table.invariant in
    let place = ap (λ (p : Place). p.table) (c.table.view_is ∙ c.requires.table) in
    let t = c.into_seat.ensures in
    (i.0 ∙ sym place, t.0 ∙ sym place, ap (λ m. m.1) t.1, omega arith, joins _ _ _ _ _)

pub load-requires : goal.load-requires
load-requires g c =
    let i = c.self.invariant in
    let w = c.table.invariant in
    let place = ap (λ (p : Place). p.table) (c.table.view_is ∙ c.requires.table) in
    (c.join_seat.ensures.0 ∙ (i.0 ∙ sym place), omega arith, looks _ _ _ _)

pub returns-clause-learnt : goal.returns-clause-learnt
returns-clause-learnt g c =
    let i = c.self.invariant in
    let k = known_in c.self.inside.seat.me.0 in
    let is = c.self.view_is in
    let alone : k.sessions ≡ [] = ap (λ (x : Known). x.sessions) is ∙ c.requires.alone.0 in
    let bare : k.copies ≡ [] = ap (λ (x : Known). x.copies) is ∙ c.requires.alone.1 in
    let l = learns k c.self.inside.seat.me.0 c.into_seat.result.me.0 c.join_seat.new.seat.me.0 c.load.result (ap (λ m. m.0) i.1) (ap (λ m. m.0) c.join_seat.ensures.2) alone bare c.load.ensures.2.1 in
    let cs : c.into_seat.result.me.0.copies ≡ c.args.copy = ap (λ m. m.0.copies) c.into_seat.ensures.1 in
    rw (← is, ← cs) l.1
