-- Checkpoints: the one that is found for a step of a job instance is the one that the fold has.
use mathlib.Core.Path.{fun_ext}
use Rattle.std.proofs.Common.{◌≡◌, ℕ, Option, List, [], ◌∷◌, find, refl, sym, ◌∙◌, ap}
use Rattle.batch_history.proofs.Folds.{place_of, instance_made, made, works_of, folded_checkpoint}
use Rattle.batch_history.proofs.Items.{works-law}
use Rattle.batch_history.proofs.Origins.{instance-law}
use Rattle.batch_history.proofs.Pasts.{AllFit}
use Rattle.batch_history.proofs.Stepping.{place-by-same}
use Rattle.batch_history.specs.Checkpoints.{InstanceStep, instance_step_by, instance_step_of, is_same_step, checkpoint_after, checkpoint_of}
use Rattle.batch_history.specs.Executions.{instance_of_execution}
use Rattle.batch_history.specs.Works.{is_work}
use Rattle.batch_history.specs.declared.call.Entry.{Entry}
use Rattle.batch_history.specs.declared.rows.WorkRow.{WorkRow}

-- the step of a work item is the one that the fold has
pub place-law : (past : List Entry) → AllFit past → (w : ℕ) → place_of past w ≡ instance_step_of past w
place-law past fits w =
    place-by-same (instance_made (made past)) (instance_of_execution past) (find (is_work w) (works_of past)) (instance-law past fits)
    ∙ ap (λ (rows : List WorkRow). instance_step_by (instance_of_execution past) (find (is_work w) rows)) (sym (works-law past fits))

-- the checkpoint of a step is the one that the fold has
mark-law : (past : List Entry) → AllFit past → (p : InstanceStep) → folded_checkpoint past p ≡ checkpoint_of past p
mark-law [] fits p = refl
mark-law (e ∷ older) fits p =
    let places : place_of older ≡ instance_step_of older = fun_ext (place-law older fits.1) in
    ap (checkpoint_after (λ w. is_same_step p (place_of older w)) e.call) (mark-law older fits.1 p)
    ∙ ap (λ (place : ℕ → Option InstanceStep). checkpoint_after (λ w. is_same_step p (place w)) e.call (checkpoint_of older p)) places

-- the checkpoints are those that the fold has
pub marks-law : (past : List Entry) → AllFit past → folded_checkpoint past ≡ checkpoint_of past
marks-law past fits = fun_ext (mark-law past fits)
