use Rattle.std.proofs.Common.{sym, ap, ◌∙◌, arith}
use Rattle.seat_rules.specs.Places.{Known, Place}
use Rattle.seat_rules.specs.Views.{known_in}
use Rattle.seat_rules.proofs.Appending.{appends_at}
use Rattle.seat_rules.proofs.desk_seat.DeskSeat.append_as.Goals as goal

pub fetch_add-requires : goal.fetch_add-requires
fetch_add-requires g c =
    let i = c.self.invariant in
    let w = c.table.invariant in
    let r = c.requires.session in
    let place = c.table.view_is ∙ c.requires.table in
    let is = c.self.view_is in (
      i.0 ∙ sym (ap (λ (p : Place). p.table) place),
      omega arith,
      appends_at _ _ _ (known_in c.self.inside.seat.me.0) c.args.entry.now _ c.self.inside.seat.me r.0 i.1 (ap (λ (k : Known). k.sessions) is ∙ r.1) r.2 c.requires.entry
          (rw (ap (λ (p : Place). p.catalogue) place, ap (λ (k : Known). k.log) is) c.requires.legal),
    )
