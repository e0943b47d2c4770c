-- The checkpoint of each step, once that of one step is set or cleared.
use Rattle.std.proofs.Common.{◌≡◌, ℕ, Bool, true, false, cond, Option, None, Some, List, refl, ◌∙◌, ap}
use Rattle.batch_ids.specs.declared.status.WorkOutcome.{WorkOutcome}
use Rattle.batch_ids.specs.declared.status.WorkOutcome.TheVariants.{Completed, Failed, Stopped}
use Rattle.batch_history.specs.Checkpoints.{InstanceStep, is_same_step, checkpoint_left}
use Rattle.batch_history.specs.declared.rows.ExecutionRow.{ExecutionRow}
use Rattle.batch_history.specs.declared.rows.JobInstance.{JobInstance}
use Rattle.batch_history.specs.declared.rows.WorkRow.{WorkRow}
use Rattle.records.specs.Maps.{Maps, mark_at}
use Rattle.records.proofs.Marks.{marks_set}
use Rattle.seq_repository.specs.Changes.{SetsMark, LeavesMark}

pub mark-set : (o : Option InstanceStep) (mark : Option (List ℕ)) (before after : Maps) → SetsMark o mark before after
    → (p : InstanceStep) → mark_at after.checkpoints p ≡ cond (is_same_step p o) mark (mark_at before.checkpoints p)
mark-set None mark before after is p = ap (λ (m : Maps). mark_at m.checkpoints p) is
mark-set (Some q) mark before after sets p = marks_set before after q mark sets p

unchanged : (b : Bool) (o : Option (List ℕ)) → o ≡ cond b o o
unchanged true o = refl
unchanged false o = refl

-- an end of a work item leaves the checkpoint of its step, unless it completes
pub mark-left : (outcome : WorkOutcome) (o : Option InstanceStep) (before after : Maps) → LeavesMark outcome o before after
    → (p : InstanceStep) → mark_at after.checkpoints p ≡ cond (is_same_step p o) (checkpoint_left outcome (mark_at before.checkpoints p)) (mark_at before.checkpoints p)
mark-left Completed o before after left p = mark-set o None before after left p
mark-left Failed o before after is p = ap (λ (m : Maps). mark_at m.checkpoints p) is ∙ unchanged (is_same_step p o) (mark_at before.checkpoints p)
mark-left Stopped o before after is p = ap (λ (m : Maps). mark_at m.checkpoints p) is ∙ unchanged (is_same_step p o) (mark_at before.checkpoints p)

-- all else is as it was

pub set-alone : (o : Option InstanceStep) (mark : Option (List ℕ)) (before after : Maps) → SetsMark o mark before after → after ≡ record before { checkpoints = after.checkpoints }
set-alone None mark before after is = ap (λ (m : Maps). record m { checkpoints = after.checkpoints }) is
set-alone (Some q) mark before after sets =
    ap (λ (rows : List JobInstance). record after { instances = rows }) sets.instances
    ∙ (ap (λ (rows : List ExecutionRow). record after { instances = before.instances; executions = rows }) sets.executions
    ∙ ap (λ (rows : List WorkRow). record before { works = rows; checkpoints = after.checkpoints }) sets.works)

pub left-alone : (outcome : WorkOutcome) (o : Option InstanceStep) (before after : Maps) → LeavesMark outcome o before after → after ≡ record before { checkpoints = after.checkpoints }
left-alone Completed o before after left = set-alone o None before after left
left-alone Failed o before after is = ap (λ (m : Maps). record m { checkpoints = after.checkpoints }) is
left-alone Stopped o before after is = ap (λ (m : Maps). record m { checkpoints = after.checkpoints }) is
