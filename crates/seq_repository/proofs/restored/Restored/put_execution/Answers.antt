use Rattle.std.proofs.Common.{◌≡◌, ℕ, None, sym, ◌∙◌, ap, subst}
use Rattle.records.specs.Maps.{Maps}
use Rattle.seq_repository.specs.Kept.{Kept, rows_in}
use Rattle.row_repository.specs.Restoring.{again_fault, with_again}
use Rattle.seq_repository.specs.Restoring.{IsRestored}
use Rattle.seq_repository.proofs.RowsAdded.{execution_above, free_again, restored_execution}
use Rattle.seq_repository.proofs.restored.Restored.put_execution.Goals as goal

pub add_execution-requires : goal.add_execution-requires
add_execution-requires g c =
    let kept : Kept = record { catalogue = c.self.inside.catalogue; count = c.self.inside.count; last = c.self.inside.last; records = c.self.inside.records } in
    let ok = free_again kept c.args.row (subst (λ (k : Kept). again_fault (rows_in k) c.args.row ≡ None) (sym c.self.view_is) c.requires) in
    execution_above g.row.LIMIT c.self.inside.newest c.self.inside.sums kept c.args.row c.self.invariant ok

pub invariant_of-self-2 : goal.invariant_of-self-2
invariant_of-self-2 g c =
    let kept : Kept = record { catalogue = c.self.inside.catalogue; count = c.self.inside.count; last = c.self.inside.last; records = c.self.inside.records } in
    let ok = free_again kept c.args.row (subst (λ (k : Kept). again_fault (rows_in k) c.args.row ≡ None) (sym c.self.view_is) c.requires) in
    subst (λ (n : ℕ). IsRestored g.row.LIMIT (record c.self.inside.newest { execution = n }) c.self.inside.sums (record kept { records = c.add_execution.new.self })) (sym c.value-self-inside.ensures)
    (restored_execution g.row.LIMIT c.self.inside.newest c.self.inside.sums kept c.add_execution.new.self c.args.row c.self.invariant ok c.in_ok-add_execution.ensures.added)

pub returns-clause-added : goal.returns-clause-added
returns-clause-added g c =
    let kept : Kept = record { catalogue = c.self.inside.catalogue; count = c.self.inside.count; last = c.self.inside.last; records = c.self.inside.records } in
    ap (λ (m : Maps). rows_in (record kept { records = m })) c.in_ok-add_execution.ensures.added
    ∙ ap (λ (k : Kept). with_again (rows_in k) c.args.row) c.self.view_is
