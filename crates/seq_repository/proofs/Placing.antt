-- Each operation leaves the walks of job executions where they begin.
use Rattle.std.proofs.Common.{◌≡◌, ℕ, Bool, true, false, cond, Option, None, Some, IfSome, List, [], ◌∷◌, find, ◌∙◌, ap, subst}
use Rattle.jsl_model.specs.Jobs.{JobTree}
use Rattle.job_plans.specs.declared.plan.Plan.{Plan}
use Rattle.batch_history.specs.Lists.{change_first}
use Rattle.batch_history.specs.Replies.{is_execution}
use Rattle.batch_history.specs.Walks.{job_named}
use Rattle.batch_history.specs.declared.rows.ExecutionRow.{ExecutionRow}
use Rattle.restart_rules.specs.Placed.{begins_in_job, is_placed, ArePlaced}
use Rattle.seq_repository.specs.Changes.{put_row, ReplacesExecution}

kept-placed : (catalogue : List JobTree) (before after : ExecutionRow) → after.job ≡ before.job → after.plan ≡ before.plan → is_placed catalogue before ≡ true → is_placed catalogue after ≡ true
kept-placed catalogue before after job plan placed =
    ap (λ (p : Plan). begins_in_job p (job_named catalogue after.job)) plan
    ∙ (ap (λ name. begins_in_job before.plan (job_named catalogue name)) job ∙ placed)

changed-placed : (catalogue : List JobTree) (p : ExecutionRow → Bool) (before after : ExecutionRow) (rows : List ExecutionRow) → find p rows ≡ Some before
    → after.job ≡ before.job → after.plan ≡ before.plan → ArePlaced catalogue rows → ArePlaced catalogue (change_first p (λ old. after) rows)
changed-placed catalogue p before after [] found job plan h = tt
changed-placed catalogue p before after (r ∷ rest) found job plan h =
    (elim (p r) as (λ b. cond b (Some r) (find p rest) ≡ Some before → ArePlaced catalogue (cond b (after ∷ rest) (r ∷ change_first p (λ old. after) rest))) [
      | true ↦ λ s. let same : r ≡ before = cc in (kept-placed catalogue before after job plan (subst (λ z. is_placed catalogue z ≡ true) same h.0), h.1)
      | false ↦ λ s. (h.0, changed-placed catalogue p before after rest s job plan h.1)
    ]) found

pub placed_put : (catalogue : List JobTree) (x : ℕ) (new : Option ExecutionRow) (rows : List ExecutionRow) → IfSome new (λ row. ReplacesExecution rows x row)
    → ArePlaced catalogue rows → ArePlaced catalogue (put_row x new rows)
placed_put catalogue x None rows own h = h
placed_put catalogue x (Some row) rows own h = changed-placed catalogue (is_execution x) own.0 row rows own.1 own.2.job own.3 h
