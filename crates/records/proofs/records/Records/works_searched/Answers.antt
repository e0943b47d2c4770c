use Rattle.std.proofs.Common.{◌≡◌, Bool, Bor, true, List, [], ◌∷◌, cond, map, sym, ◌∙◌, ap, false, refl}
use Rattle.std.proofs.lemmas.List.{map_push}
use Rattle.batch_history.specs.declared.rows.WorkRow.{WorkRow}
use Rattle.records.specs.Left.{is_work_of_instance, works_of_instance}
use Rattle.records.specs.Maps.{Maps}
use Rattle.records.specs.Slots.{rows_left}
use Rattle.records.proofs.Gathered.{one_more, passed_over, none_left}
use Rattle.records.proofs.records.Records.works_searched.Goals as goal

-- the rows of these references
abbrev rows : List (Bor WorkRow) → List WorkRow
rows found = map (λ row. row.now) found

pub loop-row-preserved-in-Continue-1 : goal.loop-row-preserved-in-Continue-1
loop-row-preserved-in-Continue-1 c =
    let row : WorkRow = c.in-Some.row.now in
    let come : List WorkRow → List WorkRow = works_of_instance c.args.i c.args.self.now.executions in
    let rest : List WorkRow = rows_left c.next.new.self in
    let theirs : is_work_of_instance c.args.i c.args.self.now.executions row ≡ true =
    ap (λ (m : Maps). is_work_of_instance c.args.i m.executions row) (sym c.self.view_is) ∙ (sym c.is_work_of_instance.ensures ∙ c.if-is_work_of_instance.true) in
    one_more come (rows c.loop-row.found.items) (row ∷ []) _ _ row (rows_left c.loop-row.row-iterator) rest c.in-Some.ensures.steps
    (ap (λ (b : Bool). cond b (row ∷ come rest) (come rest)) theirs)
    (ap rows c.in_ok-push.ensures.items ∙ map_push (λ (r : Bor WorkRow). r.now) c.loop-row.found.items c.in-Some.row) c.loop-row.invariant

pub loop-row-preserved : goal.loop-row-preserved
loop-row-preserved c =
    let row : WorkRow = c.in-Some.row.now in
    let come : List WorkRow → List WorkRow = works_of_instance c.args.i c.args.self.now.executions in
    let rest : List WorkRow = rows_left c.next.new.self in
    let others : is_work_of_instance c.args.i c.args.self.now.executions row ≡ false =
    ap (λ (m : Maps). is_work_of_instance c.args.i m.executions row) (sym c.self.view_is) ∙ (sym c.is_work_of_instance.ensures ∙ c.if-is_work_of_instance.false) in
    passed_over come (rows c.loop-row.found.items) _ row (rows_left c.loop-row.row-iterator) rest c.in-Some.ensures.steps
    (ap (λ (b : Bool). cond b (row ∷ come rest) (come rest)) others) c.loop-row.invariant

pub returns : goal.returns
returns c =
    none_left (works_of_instance c.args.i c.args.self.now.executions) (rows c.loop-row.found.items) _ (rows_left c.loop-row.row-iterator) c.in-None.ensures.steps.0 refl c.loop-row.invariant
