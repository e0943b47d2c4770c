use Rattle.std.proofs.Common.{◌≡◌, ℕ, ◌+◌, Bor, List, [], ◌∷◌, ◌++◌, bytes_eq, cond, map, take, sym, ◌∙◌, ap}
use Rattle.std.proofs.lemmas.List.{take_all, take_more, map_push}
use Rattle.batch_history.specs.Restarts.{works_of_step}
use Rattle.batch_history.specs.declared.rows.WorkRow.{WorkRow}
use Rattle.records.specs.Indexes.{numbers_named}
use Rattle.records.specs.Maps.{work_numbers}
use Rattle.records.proofs.Stepped.{one_more}
use Rattle.records.proofs.records.steps_among.Goals as goal

-- the rows of these references
abbrev rows : List (Bor WorkRow) → List WorkRow
rows works = map (λ row. row.now) works

pub loop-row-init : goal.loop-row-init
loop-row-init c = c.new-names.ensures

pub loop-row-preserved : goal.loop-row-preserved
loop-row-preserved c = λ q.
    let works : List (Bor WorkRow) = c.args.works.now in
    let i : ℕ = c.loop-row.row-index in
    let row : Bor WorkRow = c.row-item.result in
    let before : List ℕ → List ℕ = numbers_named c.loop-row.names in
    let more : rows (take (i + 1) works) ≡ rows (take i works) ++ row.now ∷ [] =
    ap rows (take_more works i row c.loop-row-test.true ∙ ap (λ (r : Bor WorkRow). take i works ++ r ∷ []) (sym c.row-item.is))
    ∙ map_push (λ (r : Bor WorkRow). r.now) (take i works) row in
    one_more before (numbers_named c.push.new.self) row.now (rows (take i works)) c.loop-row.invariant
    (λ p. c.in_ok-push.ensures.added p
    ∙ (ap (λ (name : List ℕ). cond (bytes_eq name p) (before p ++ c.value.result ∷ []) (before p)) c.as_str.ensures.same
    ∙ ap (λ (n : ℕ). cond (bytes_eq row.now.element p) (before p ++ n ∷ []) (before p)) c.value.ensures))
    q
    ∙ sym (ap (λ (l : List WorkRow). work_numbers (works_of_step q l)) more)

pub returns : goal.returns
returns c = λ q. c.loop-row.invariant q ∙ ap (λ (l : List (Bor WorkRow)). work_numbers (works_of_step q (rows l))) (take_all c.loop-row.row-index c.args.works.now c.loop-row-test.false)
