use Rattle.std.proofs.Common.{◌≡◌, ◌≤◌, ◌+◌, ℕ, Bool, None, Some, true, cond, find, length, List, ◌∷◌, drop, sym, ◌∙◌, ap, arith, false}
use Rattle.std.specs.Option.{option_map}
use Rattle.std.proofs.Math.ListN.{drop_of_length-le}
use Rattle.std.proofs.lemmas.List.{drop_more}
use Rattle.batch_history.specs.declared.rows.CheckpointRow.{CheckpointRow}
use Rattle.batch_history.specs.Checkpoints.{InstanceStep}
use Rattle.record_lists.specs.Places.{is_place, mark_at}
use Rattle.record_lists.proofs.Listing.{mark_among}
use Rattle.record_lists.proofs.checkpoint_lists.CheckpointLists.mark.Goals as goal

pub returns-then-is_place : goal.returns-then-is_place
returns-then-is_place c =
    let p : InstanceStep = record { instance = c.args.i; step = c.args.step.now } in
    let rows : List CheckpointRow = c.of_instance-row-items.result.now in
    let row : CheckpointRow = c.row-item.result in
    let i : ℕ = c.loop-row.row-index in
    let here : is_place p row ≡ true = sym c.is_place.ensures ∙ c.if-is_place.true in
    let found : mark_at (drop i rows) p ≡ Some row.mark =
    ap (λ (l : List CheckpointRow). mark_at l p) (drop_more rows i row c.loop-row-test.true)
    ∙ (ap (λ (r : CheckpointRow). mark_at (r ∷ drop (i + 1) rows) p) (sym c.row-item.is)
    ∙ ap (λ (b : Bool). option_map (λ (r : CheckpointRow). r.mark) (cond b (Some row) (find (is_place p) (drop (i + 1) rows)))) here) in
    sym found ∙ (c.loop-row.invariant ∙ (ap (λ (l : List CheckpointRow). mark_at l p) c.of_instance-row-items.ensures ∙ mark_among p c.args.self.now))

pub returns : goal.returns
returns c =
    let p : InstanceStep = record { instance = c.args.i; step = c.args.step.now } in
    let rows : List CheckpointRow = c.of_instance-row-items.result.now in
    let i : ℕ = c.loop-row.row-index in
    let all : length rows ≤ i = omega (arith, c.loop-row-test.false) in
    let found : mark_at (drop i rows) p ≡ None = ap (λ (l : List CheckpointRow). mark_at l p) (drop_of_length-le rows all) in
    sym found ∙ (c.loop-row.invariant ∙ (ap (λ (l : List CheckpointRow). mark_at l p) c.of_instance-row-items.ensures ∙ mark_among p c.args.self.now))

pub loop-row-preserved : goal.loop-row-preserved
loop-row-preserved c =
    let p : InstanceStep = record { instance = c.args.i; step = c.args.step.now } in
    let rows : List CheckpointRow = c.of_instance-row-items.result.now in
    let row : CheckpointRow = c.row-item.result in
    let i : ℕ = c.loop-row.row-index in
    let off : is_place p row ≡ false = sym c.is_place.ensures ∙ c.if-is_place.false in
    let further : mark_at (drop i rows) p ≡ mark_at (drop (i + 1) rows) p =
    ap (λ (l : List CheckpointRow). mark_at l p) (drop_more rows i row c.loop-row-test.true)
    ∙ (ap (λ (r : CheckpointRow). mark_at (r ∷ drop (i + 1) rows) p) (sym c.row-item.is)
    ∙ ap (λ (b : Bool). option_map (λ (r : CheckpointRow). r.mark) (cond b (Some row) (find (is_place p) (drop (i + 1) rows)))) off) in
    sym further ∙ c.loop-row.invariant
