-- The checkpoint of each step, where the rows are four maps and one checkpoint is set or cleared.
use Rattle.std.proofs.Common.{◌≡◌, ℕ, Bool, true, false, cond, Option, Some, List, refl, sym, ◌∙◌, ap}
use Rattle.batch_history.specs.declared.rows.CheckpointRow.{CheckpointRow}
use Rattle.batch_history.specs.Checkpoints.{InstanceStep, is_same_step}
use Rattle.records.specs.Maps.{Maps, mark_at, SetsCheckpoint}
use Rattle.record_lists.proofs.Marks.{same_place, own_place, other_place, apart_place}

-- the checkpoint at a step is set, and no other
pub set_one : (before after : Maps) (p : InstanceStep) (mark : Option (List ℕ)) (rows : List CheckpointRow)
    → ((q : InstanceStep) → mark_at rows q ≡ cond (is_same_step q (Some p)) mark (mark_at before.checkpoints q))
    → after ≡ record before { checkpoints = rows } → SetsCheckpoint before after p mark
set_one before after p mark rows at is =
    record {
      here = ap (λ (m : Maps). mark_at m.checkpoints p) is ∙ (at p ∙ ap (λ b. cond b mark (mark_at before.checkpoints p)) (own_place p));
      others = λ q apart. ap (λ (m : Maps). mark_at m.checkpoints q) is ∙ (at q ∙ ap (λ b. cond b mark (mark_at before.checkpoints q)) (apart_place p q apart));
      instances = ap (λ (m : Maps). m.instances) is;
      executions = ap (λ (m : Maps). m.executions) is;
      works = ap (λ (m : Maps). m.works) is;
    }

-- the checkpoint of each step, once that of one is set
pub marks_set : (before after : Maps) (p : InstanceStep) (mark : Option (List ℕ)) → SetsCheckpoint before after p mark
    → (q : InstanceStep) → mark_at after.checkpoints q ≡ cond (is_same_step q (Some p)) mark (mark_at before.checkpoints q)
marks_set before after p mark sets q =
    (elim (is_same_step q (Some p)) as (λ b. is_same_step q (Some p) ≡ b → mark_at after.checkpoints q ≡ cond b mark (mark_at before.checkpoints q)) [
      | true ↦ λ here. ap (mark_at after.checkpoints) (sym (same_place q p here)) ∙ sets.here
      | false ↦ λ off. sets.others q (other_place p q off)
    ]) refl
