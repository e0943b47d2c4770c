use Rattle.std.proofs.Common.{◌≡◌, ℕ, None, List, [], ◌∷◌, ◌++◌, sym, ◌∙◌, ap, subst}
use Rattle.records.specs.Maps.{Maps}
use Rattle.seq_repository.specs.Kept.{Kept, rows_in}
use Rattle.row_repository.specs.Restoring.{first_fault, with_first}
use Rattle.seq_repository.specs.Restoring.{IsRestored}
use Rattle.seq_repository.proofs.RowsAdded.{execution_above, first_in, free_first, instance_above, restored_first}
use Rattle.seq_repository.proofs.restored.Restored.put_first.Goals as goal

pub add_instance-requires-clause-instance : goal.add_instance-requires-clause-instance
add_instance-requires-clause-instance g c =
    let kept : Kept = record { catalogue = c.self.inside.catalogue; count = c.self.inside.count; last = c.self.inside.last; records = c.self.inside.records } in
    let ok = free_first kept c.args.row (subst (λ (k : Kept). first_fault (rows_in k) c.args.row ≡ None) (sym c.self.view_is) c.requires) in
    instance_above g.row.LIMIT c.self.inside.newest c.self.inside.sums kept c.args.row c.self.invariant ok

pub add_instance-requires-clause-first : goal.add_instance-requires-clause-first
add_instance-requires-clause-first g c =
    let kept : Kept = record { catalogue = c.self.inside.catalogue; count = c.self.inside.count; last = c.self.inside.last; records = c.self.inside.records } in
    let ok = free_first kept c.args.row (subst (λ (k : Kept). first_fault (rows_in k) c.args.row ≡ None) (sym c.self.view_is) c.requires) in
    execution_above g.row.LIMIT c.self.inside.newest c.self.inside.sums kept c.args.row c.self.invariant ok.execution

pub invariant_of-self-2 : goal.invariant_of-self-2
invariant_of-self-2 g c =
    let kept : Kept = record { catalogue = c.self.inside.catalogue; count = c.self.inside.count; last = c.self.inside.last; records = c.self.inside.records } in
    let ok = free_first kept c.args.row (subst (λ (k : Kept). first_fault (rows_in k) c.args.row ≡ None) (sym c.self.view_is) c.requires) in
    let added : c.add_instance.new.self ≡ first_in c.self.inside.records c.args.row = c.in_ok-add_instance.ensures.added ∙ ap (λ (job : List ℕ). record c.self.inside.records { instances = c.self.inside.records.instances ++ record { instance = c.args.row.instance; job = job } ∷ []; executions = c.self.inside.records.executions ++ c.args.row ∷ [] }) c.in-Ok.ensures in
    subst (λ (n : ℕ). IsRestored g.row.LIMIT (record c.self.inside.newest { instance = n; execution = c.value-self-inside-2.result }) c.self.inside.sums (record kept { records = c.add_instance.new.self })) (sym c.value-self-inside.ensures)
    (subst (λ (n : ℕ). IsRestored g.row.LIMIT (record c.self.inside.newest { instance = c.args.row.instance; execution = n }) c.self.inside.sums (record kept { records = c.add_instance.new.self })) (sym c.value-self-inside-2.ensures)
    (restored_first g.row.LIMIT c.self.inside.newest c.self.inside.sums kept c.add_instance.new.self c.args.row c.self.invariant ok added))

pub returns-clause-added : goal.returns-clause-added
returns-clause-added g c =
    let kept : Kept = record { catalogue = c.self.inside.catalogue; count = c.self.inside.count; last = c.self.inside.last; records = c.self.inside.records } in
    let added : c.add_instance.new.self ≡ first_in c.self.inside.records c.args.row = c.in_ok-add_instance.ensures.added ∙ ap (λ (job : List ℕ). record c.self.inside.records { instances = c.self.inside.records.instances ++ record { instance = c.args.row.instance; job = job } ∷ []; executions = c.self.inside.records.executions ++ c.args.row ∷ [] }) c.in-Ok.ensures in
    ap (λ (m : Maps). rows_in (record kept { records = m })) added
    ∙ ap (λ (k : Kept). with_first (rows_in k) c.args.row) c.self.view_is
