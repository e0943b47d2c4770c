use Rattle.std.proofs.Common.{◌≡◌, ℕ, ◌-◌, List, Some, length, nat_lt, slice_get, sym, ◌∙◌, ap, subst, None}
use Rattle.std.specs.List.{list_any}
use Rattle.std.specs.Option.{option_copied}
use Rattle.batch_history.specs.declared.rows.ExecutionRow.{ExecutionRow}
use Rattle.records.specs.Left.{executions_of}
use Rattle.records.specs.Indexes.{numbers_under}
use Rattle.records.specs.Maps.{Maps, execution_numbers}
use Rattle.records.proofs.Newest.{newest_above, none_above}
use Rattle.records.proofs.records.Records.has_execution_above.Goals as goal

pub returns-in-Some : goal.returns-in-Some
returns-in-Some c =
    let n : ℕ = c.in-Some.newest.now in
    let numbers : List ℕ = c.under.result.now in
    let last : slice_get numbers (length numbers - 1) ≡ Some n = sym c.last.ensures.value ∙ ap option_copied c.in-Some.is in
    let own : numbers ≡ execution_numbers (executions_of c.args.i c.self.inside.executions.rows) = c.under.ensures ∙ (ap (λ (i : ℕ). numbers_under c.self.inside.executions_by_instance i) c.value.ensures ∙ c.self.invariant.0.executions_by_instance c.args.i) in
    let above : nat_lt c.args.x n ≡ list_any (λ row. nat_lt c.args.x row.execution) (executions_of c.args.i c.self.inside.executions.rows) =
    newest_above c.args.i c.args.x n c.self.inside.executions.rows c.self.invariant.0.keyed.executions (subst (λ (ns : List ℕ). slice_get ns (length ns - 1) ≡ Some n) own last) in
    ap (λ (x : ℕ). nat_lt x n) c.value-in-Some.ensures
    ∙ (above ∙ ap (λ (maps : Maps). list_any (λ row. nat_lt c.args.x row.execution) (executions_of c.args.i maps.executions)) c.self.view_is)

pub returns-in-None : goal.returns-in-None
returns-in-None c =
    let numbers : List ℕ = c.under.result.now in
    let rows : List ExecutionRow = executions_of c.args.i c.self.inside.executions.rows in
    let last : slice_get numbers (length numbers - 1) ≡ None = sym c.last.ensures.value ∙ ap option_copied c.in-None.is in
    let own : numbers ≡ execution_numbers rows = c.under.ensures ∙ (ap (λ (i : ℕ). numbers_under c.self.inside.executions_by_instance i) c.value.ensures ∙ c.self.invariant.0.executions_by_instance c.args.i) in
    sym (none_above c.args.x rows (subst (λ (ns : List ℕ). slice_get ns (length ns - 1) ≡ None) own last))
    ∙ ap (λ (maps : Maps). list_any (λ row. nat_lt c.args.x row.execution) (executions_of c.args.i maps.executions)) c.self.view_is
