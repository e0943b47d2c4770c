use Rattle.std.proofs.Common.{◌≡◌, Bool, true, ◌||◌, sym, ◌∙◌, ap}
use Rattle.std.specs.List.{list_any}
use Rattle.batch_history.specs.Works.{work_key}
use Rattle.batch_history.specs.declared.rows.WorkRow.{WorkRow}
use Rattle.records.specs.Left.{works_left, works_of}
use Rattle.seq_repository.specs.Kept.{Kept}
use Rattle.walk_rules.specs.Keys.{is_same_key}
use Rattle.walk_rules.specs.declared.work_key.WorkKey.{WorkKey}
use Rattle.seq_repository.proofs.RowsAdded.{any_own}
use Rattle.seq_repository.proofs.restored.Restored.has_work.Goals as goal

-- whether a work item has this work key
abbrev is_of : WorkKey → WorkRow → Bool
is_of key row = is_same_key (work_key row) key

pub loop-other-init : goal.loop-other-init
loop-other-init g c =
    ap (λ left. list_any (is_of (work_key c.args.row.now)) (works_left left)) c.into_iter-other-iterator.ensures.into_iter_gives
    ∙ ap (list_any (is_of (work_key c.args.row.now))) (c.works_of-other-items.ensures ∙ ap (λ (k : Kept). works_of c.args.row.now.execution k.records.works) c.self.view_is)

pub returns-then-is_same_key : goal.returns-then-is_same_key
returns-then-is_same_key g c =
    let key : WorkKey = work_key c.args.row.now in
    let on : is_of key c.in-Some.other.now ≡ true = sym c.is_same_key.ensures ∙ c.if-is_same_key.true in
    sym (ap (λ (b : Bool). b || list_any (is_of key) (works_left c.next.new.self)) on)
    ∙ (ap (list_any (is_of key)) (sym c.in-Some.ensures.steps) ∙ (c.loop-other.invariant ∙ any_own c.args.row.now.execution (is_of key) c.args.self.now.records.works))

pub returns : goal.returns
returns g c =
    let key : WorkKey = work_key c.args.row.now in
    ap (list_any (is_of key)) (sym c.in-None.ensures.steps.0) ∙ (c.loop-other.invariant ∙ any_own c.args.row.now.execution (is_of key) c.args.self.now.records.works)
