use Rattle.std.proofs.Common.{List, sym, ◌∙◌, ap, ◌≡◌, ℕ, ◌+◌, Bool, false, [], ◌∷◌, ◌++◌, cond, drop, take}
use Rattle.std.proofs.Math.Seq.{append_snoc}
use Rattle.std.proofs.lemmas.List.{drop_more, take_more}
use Rattle.batch_history.specs.declared.rows.CheckpointRow.{CheckpointRow}
use Rattle.batch_history.specs.Checkpoints.{InstanceStep}
use Rattle.record_lists.specs.Places.{is_place}
use Rattle.record_lists.specs.Placed.{marked, with_mark}
use Rattle.record_lists.proofs.Marks.{held_at}
use Rattle.record_lists.proofs.checkpoint_lists.place_of.Goals as goal

pub returns-then-is_place-clause-held : goal.returns-then-is_place-clause-held
returns-then-is_place-clause-held c =
    let rows : List CheckpointRow = c.args.rows.now in
    let p : InstanceStep = record { instance = c.args.i; step = c.args.step.now } in (
      c.loop-place-test.true,
      λ mark.
          held_at p mark rows c.loop-place.place c.index-rows-place.result c.loop-place-test.true
          (ap (is_place p) (sym c.index-rows-place.is) ∙ (sym c.is_place.ensures ∙ c.if-is_place.true)) (c.loop-place.invariant mark),
    )

pub loop-place-preserved : goal.loop-place-preserved
loop-place-preserved c = λ mark.
    let rows : List CheckpointRow = c.args.rows.now in
    let p : InstanceStep = record { instance = c.args.i; step = c.args.step.now } in
    let k : ℕ = c.loop-place.place in
    let row : CheckpointRow = c.index-rows-place.result in
    let passed : List CheckpointRow = take k rows in
    let rest : List CheckpointRow = drop (k + 1) rows in
    let off : is_place p row ≡ false = sym c.is_place.ensures ∙ c.if-is_place.false in
    let first : drop k rows ≡ row ∷ rest = drop_more rows k row c.loop-place-test.true ∙ ap (λ (r : CheckpointRow). r ∷ rest) (sym c.index-rows-place.is) in
    let more : take (k + 1) rows ≡ passed ++ row ∷ [] = take_more rows k row c.loop-place-test.true ∙ ap (λ (r : CheckpointRow). passed ++ r ∷ []) (sym c.index-rows-place.is) in
    c.loop-place.invariant mark
    ∙ (ap (λ (l : List CheckpointRow). passed ++ with_mark p mark l) first
    ∙ (ap (λ (b : Bool). passed ++ cond b (marked p mark ∷ rest) (row ∷ with_mark p mark rest)) off
    ∙ (sym (append_snoc passed row (with_mark p mark rest)) ∙ ap (λ (l : List CheckpointRow). l ++ with_mark p mark rest) (sym more))))
