-- A run whose log is sealed at its end.
use Rattle.std.proofs.Common.{◌≡◌, inl, inr, ℕ, List, Bool, true, false, Result, Ok, Err, sym, ◌∙◌, subst}
use Rattle.std.proofs.lemmas.Bool.{false≢true}
use Rattle.std.specs.Prelude.{IfErr}
use Rattle.log_host.specs.Host.{Outcomes, LeavesOnly}
use Rattle.durable_log.specs.Format.{LogRecord}
use Rattle.durable_log.specs.Files.{StandsFor}
use Rattle.durable_log.specs.Logs.{records_of, Same}
use Rattle.durable_log.specs.declared.log.Log.{Log}
use Rattle.durable_log.proofs.Fronts.{records-stand}
use Rattle.durable_log.proofs.Moments.{then_leaves, weaker}
use Rattle.script_log.specs.Runs.{History, Answering, replies, history_of}
use Rattle.script_log.specs.Hosts.{Hosting, State, state_of, Account, account, account_of}
use Rattle.script_log.specs.Reading.{Reading}
use Rattle.script_log.specs.Covered.{Covered, Hears}
use Rattle.script_log.specs.Outcomes.{HasAnswered, HasRun}
use Rattle.script_log.specs.Faults.{has_broken, is_broken, HasCause}
use Rattle.script_log.specs.declared.fault.RunFault.{RunFault}
use Rattle.script_log.specs.declared.fault.RunFault.TheVariants as faults
use Rattle.logged_script.specs.Logged.{Ends, IsSealedAfter}

whole : (P : Type 0) (f : RunFault) → is_broken f ≡ true → has_broken (Err f) ≡ false → P
whole P f broken not = absurd (false≢true (sym not ∙ broken))

module _ {D : Type 0} (d : Hosting D) (last new : D) where
  cause-kept : (e : Answering) (old : State) (x : Reading) (result : Result Unit RunFault) → has_broken result ≡ false → IfErr result (HasCause e old x (state_of d last)) → IfErr result (HasCause e old x (state_of d new))
  cause-kept e old x (Ok u) not cause = tt
  cause-kept e old x (Err faults.Read) not cause = cause
  cause-kept e old x (Err faults.Write) not cause = absurd (false≢true (sym not))
  cause-kept e old x (Err (faults.Log fault)) not cause = absurd (false≢true (sym not))
  cause-kept e old x (Err faults.OutOfMemory) not cause = tt

  -- the replies stay as they are
  sealed-run : (e : Answering) (old : State) (x : Reading) (result : Result Unit RunFault) → has_broken result ≡ false → IsSealedAfter d last new → HasRun e old x (state_of d last) result → HasRun e old x (state_of d new) result
  sealed-run e old x result not s R =
      let same : account_of (state_of d last) ≡ account_of (state_of d new) = λ i. account (sym s.records i) (sym s.heard i) in
      record {
        read = R.read;
        answered = subst (λ (a : Account). HasAnswered e (account_of old) x a result) same R.answered;
        ended = R.ended;
        cause = cause-kept e old x result not R.cause;
      }

  pub run-ended : (e : Answering) (old : State) (x : Reading) (result : Result Unit RunFault) → Ends d result last new → HasRun e old x (state_of d last) result → HasRun e old x (state_of d new) result
  run-ended e old x result (inl broken) R = subst (λ (h : D). HasRun e old x (state_of d h) result) (sym broken.1) R
  run-ended e old x result (inr sealed) R = sealed-run e old x result sealed.0 sealed.1 R

  -- nor does a crash leave other outcomes
  module _ (keeps : History → List ℕ → Bool) (reply : History → List ℕ → List ℕ) (records : List LogRecord) (lines : List (List ℕ)) (heard : List ℕ) where
    abbrev P : Outcomes
    P = Covered keeps reply records lines heard

    -- the same records, and the same bytes heard
    same-covered : P (d.seen last) (d.heard last) → (f o : List ℕ) → Same (records_of (d.seen last)) (d.heard last) f o → P f o
    same-covered C f o same = record {
      done = C.done;
      others = C.others;
      first = C.first;
      stands = subst (λ (rs : List LogRecord). StandsFor rs f) (records-stand _ (d.seen last) C.stands) same.0;
      answers = subst (λ (l : List ℕ). Hears heard (replies keeps reply (history_of records) C.done) l) (sym same.1) C.answers;
    }

    pub covered-ended : (old : D) (result : Result Unit RunFault) → LeavesOnly d.moment d.left_since old last P → P (d.seen last) (d.heard last) → Ends d result last new → LeavesOnly d.moment d.left_since old new P
    covered-ended old result leaves now (inl broken) = subst (λ (h : D). LeavesOnly d.moment d.left_since old h P) (sym broken.1) leaves
    covered-ended old result leaves now (inr sealed) = then_leaves d.moment d.left_since old last new P leaves (weaker d.moment d.left_since last new _ P sealed.1.any_moment (same-covered now))
