use Rattle.std.proofs.Common.{◌≡◌, ℕ, None, sym, ◌∙◌, ap, subst}
use Rattle.records.specs.Maps.{Maps}
use Rattle.seq_repository.specs.Kept.{Kept, rows_in}
use Rattle.row_repository.specs.Restoring.{work_fault, with_work}
use Rattle.seq_repository.specs.Restoring.{IsRestored}
use Rattle.seq_repository.proofs.RowsAdded.{no_fault, restored_work, room_for_work, work_above}
use Rattle.seq_repository.proofs.restored.Restored.put_work.Goals as goal

pub add_work-requires : goal.add_work-requires
add_work-requires g c =
    let kept : Kept = record { catalogue = c.self.inside.catalogue; count = c.self.inside.count; last = c.self.inside.last; records = c.self.inside.records } in
    let ok = no_fault kept c.args.row (subst (λ (k : Kept). work_fault (rows_in k) c.args.row ≡ None) (sym c.self.view_is) c.requires) in
    work_above g.row.LIMIT c.self.inside.newest c.self.inside.sums kept c.args.row c.self.invariant ok

pub join-requires : goal.join-requires
join-requires g c =
    let kept : Kept = record { catalogue = c.self.inside.catalogue; count = c.self.inside.count; last = c.self.inside.last; records = c.self.inside.records } in
    let ok = no_fault kept c.args.row (subst (λ (k : Kept). work_fault (rows_in k) c.args.row ≡ None) (sym c.self.view_is) c.requires) in
    room_for_work g.row.LIMIT c.self.inside.newest c.self.inside.sums kept c.args.row c.self.invariant ok.room

pub invariant_of-self-2 : goal.invariant_of-self-2
invariant_of-self-2 g c =
    let kept : Kept = record { catalogue = c.self.inside.catalogue; count = c.self.inside.count; last = c.self.inside.last; records = c.self.inside.records } in
    let ok = no_fault kept c.args.row (subst (λ (k : Kept). work_fault (rows_in k) c.args.row ≡ None) (sym c.self.view_is) c.requires) in
    subst (λ (n : ℕ). IsRestored g.row.LIMIT (record c.self.inside.newest { work = n }) c.join.new.self (record kept { records = c.add_work.new.self })) (sym c.value-self-inside.ensures)
    (restored_work g.row.LIMIT c.self.inside.newest c.self.inside.sums c.join.new.self kept c.add_work.new.self c.args.row c.self.invariant ok c.join.ensures c.in_ok-add_work.ensures.added)

pub returns-clause-added : goal.returns-clause-added
returns-clause-added g c =
    let kept : Kept = record { catalogue = c.self.inside.catalogue; count = c.self.inside.count; last = c.self.inside.last; records = c.self.inside.records } in
    ap (λ (m : Maps). rows_in (record kept { records = m })) c.in_ok-add_work.ensures.added
    ∙ ap (λ (k : Kept). with_work (rows_in k) c.args.row) c.self.view_is
