-- What a purge leaves, and what it asks for.
use Rattle.std.proofs.Common.{◌≡◌, ℕ, ◌+◌, true, false, cond, is_some, Result, Ok, Err, List, find, refl, sym, ◌∙◌, ap}
use Rattle.std.specs.List.{list_any}
use Rattle.batch_history.specs.NextRows.{rows_after}
use Rattle.batch_history.specs.Replies.{accepted, is_running_in, reply_by}
use Rattle.batch_history.specs.Rows.{Rows}
use Rattle.batch_history.specs.declared.call.Call.TheVariants.{Purge}
use Rattle.batch_history.specs.declared.call.Reply.{Reply}
use Rattle.batch_history.specs.declared.call.Reply.TheVariants.{Done}
use Rattle.batch_history.specs.declared.rows.LastNumbers.{LastNumbers}
use Rattle.batch_ids.specs.declared.refusal.Refusal.{Refusal}
use Rattle.batch_ids.specs.declared.refusal.Refusal.TheVariants.{JobExecutionIsRunningException, NoSuchJobInstanceException}
use Rattle.jsl_model.specs.Jobs.{JobTree}
use Rattle.records.specs.Maps.{Maps, is_instance}
use Rattle.records.specs.Without.{without_instance}
use Rattle.restart_rules.proofs.Reading.{rows_without}
use Rattle.restart_rules.specs.Restarting.{rows_over}
use Rattle.reply_rules.proofs.Lists.{any_found}

-- the rows after a purge
pub purge_entered : (catalogue : List JobTree) (count : ℕ) (last : LastNumbers) (old m : Maps) (who at i : ℕ) (reply : Reply)
    → m ≡ without_instance i old
    → rows_over catalogue (count + 1) last m ≡ rows_after (rows_over catalogue count last old) record { who = who; call = Purge i; at = at; reply = reply }
purge_entered catalogue count last old m who at i reply is =
    ap (rows_over catalogue (count + 1) last) is ∙ rows_without catalogue (count + 1) last old i

-- what is purged, is there
pub purged_there : (limit : ℕ) (r : Rows) (who i : ℕ) (given : Reply) → reply_by limit r who (Purge i) ≡ Ok given
    → is_some (find (is_instance i) r.instances) ≡ true
purged_there limit r who i given e =
    let reply : Result Reply Refusal = cond (list_any (is_running_in i) r.executions) (Err JobExecutionIsRunningException) (accepted limit r.count Done) in
    sym (any_found (is_instance i) r.instances)
    ∙ (elim (list_any (is_instance i) r.instances) as (λ b. cond b reply (Err NoSuchJobInstanceException) ≡ Ok given → b ≡ true) [
      | true ↦ λ s. refl
      | false ↦ λ s. cc
    ]) e

-- and none of its job executions is unfinished
pub purged_finished : (limit : ℕ) (r : Rows) (who i : ℕ) (given : Reply) → reply_by limit r who (Purge i) ≡ Ok given
    → list_any (is_running_in i) r.executions ≡ false
purged_finished limit r who i given e =
    (elim (list_any (is_instance i) r.instances) as (λ b. cond b (cond (list_any (is_running_in i) r.executions) (Err JobExecutionIsRunningException) (accepted limit r.count Done)) (Err NoSuchJobInstanceException) ≡ Ok given
    → list_any (is_running_in i) r.executions ≡ false) [
      | true ↦ λ s.
          (elim (list_any (is_running_in i) r.executions) as (λ b. ◌≡◌ {A = Result Reply Refusal} (cond b (Err JobExecutionIsRunningException) (accepted limit r.count Done)) (Ok given) → b ≡ false) [
            | true ↦ λ t. cc
            | false ↦ λ t. refl
          ]) s
      | false ↦ λ s. cc
    ]) e
