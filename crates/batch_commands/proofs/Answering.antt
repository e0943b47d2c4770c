-- The lines over a file that is ready.
use Rattle.std.proofs.Common.{◌≡◌, inl, inr, ℕ, Bool, List, [], ◌++◌, Result, ap, subst}
use Rattle.log_host.specs.Host.{Outcomes, LeavesOnly}
use Rattle.log_host.specs.Past.{Call, Past, file_faults_after, listener_faults_after}
use Rattle.file_host.specs.Calls.{file_calls}
use Rattle.durable_log.specs.Logs.{records_of}
use Rattle.script_lines.specs.Device.{Held}
use Rattle.script_log.specs.Covered.{Covered}
use Rattle.script_log.specs.Hosts.{Hosting, hosting, state_of, GoesOn}
use Rattle.script_log.specs.Reading.{Reading, lines_in}
use Rattle.script_log.specs.declared.fault.RunFault.{RunFault}
use Rattle.logged_script.specs.Histories.{is_kept, reply_at}
use Rattle.logged_script.specs.Logged.{Ends, IsAnsweredOver}
use Rattle.batch_commands.specs.Logging.{AnswersOver, seen_of, heard_of, leaves_of, moment_of, left_since, past_meaning, outcome_over}
use Rattle.batch_commands.specs.declared.logged_fault.OverLogFault.{OverLogFault}

-- a host that has such a past, and what else becomes of it
module _ {D : Type 0} (p origin : D → Past) where
  abbrev pub meaning : Hosting D
  meaning = hosting (λ h. seen_of (p h)) (λ h. heard_of (p h)) (λ h. leaves_of (p h)) (λ h. moment_of (p h)) (λ h. left_since (p h)) origin (λ h. file_faults_after (p h).calls) (λ h. listener_faults_after (p h).calls)

  leaves-past : (old new : D) (P : Outcomes) → LeavesOnly (λ h. moment_of (p h)) (λ h. left_since (p h)) old new P → LeavesOnly moment_of left_since (p old) (p new) P
  leaves-past old new P L = record { later = L.later; each = L.each; before = L.before }

  ends-past : (outcome : Result Unit RunFault) (last new : D) → Ends meaning outcome last new → Ends past_meaning outcome (p last) (p new)
  ends-past outcome last new (inl broken) = inl (broken.0, ap p broken.1)
  ends-past outcome last new (inr sealed) =
      let s = sealed.1 in
      inr (
        sealed.0,
        record {
          end = s.end;
          rest = s.rest;
          durable = s.durable;
          any_moment = leaves-past last new _ s.any_moment;
          sealed = s.sealed;
          but_for_gate = s.but_for_gate;
          records = s.records;
          heard = s.heard;
        },
      )

  pub answers-by : (tags : Bool) (bytes : List ℕ) (x : Reading) (made d' : List Call) (w' : Held) (result : Result Unit OverLogFault) (before after : D) (outcome : Result Unit RunFault)
      → seen_of (p before) ≡ bytes → heard_of (p before) ≡ []
      → LeavesOnly (λ h. moment_of (p h)) (λ h. left_since (p h)) before after (Covered (is_kept tags) (reply_at tags) (records_of (seen_of (p before))) (lines_in x) (heard_of (p before)))
      → ((last : D) × GoesOn meaning before last × Ends meaning outcome last after)
      → IsAnsweredOver tags (state_of meaning before) x (state_of meaning after) outcome
      → result ≡ outcome_over outcome → d' ≡ file_calls (p after).calls ++ made → w'.bytes ≡ heard_of (p after)
      → AnswersOver tags bytes x made d' w' result
  answers-by tags bytes x made d' w' result before after outcome seen heard moments sealing ended status calls took =
      let since = LeavesOnly (λ h. moment_of (p h)) (λ h. left_since (p h)) before after in
      let covered : since (Covered (is_kept tags) (reply_at tags) (records_of bytes) (lines_in x) []) =
      subst (λ (l : List ℕ). since (Covered (is_kept tags) (reply_at tags) (records_of bytes) (lines_in x) l)) heard
      (subst (λ (l : List ℕ). since (Covered (is_kept tags) (reply_at tags) (records_of l) (lines_in x) (heard_of (p before)))) seen moments) in
      record {
        before = p before;
        after = p after;
        made_with = seen;
        nothing_heard = heard;
        any_moment = leaves-past before after (Covered (is_kept tags) (reply_at tags) (records_of bytes) (lines_in x) []) covered;
        last = p sealing.0;
        unsealed = leaves-past before sealing.0 _ sealing.1.unsealed;
        outcome = outcome;
        sealing = ends-past outcome sealing.0 after sealing.2;
        ended = ended;
        status = status;
        calls = calls;
        took = took;
      }
