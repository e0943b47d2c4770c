-- How a run ends, once what waits was passed on.
use Rattle.std.proofs.Common.{◌≡◌, ℕ, List, [], ◌++◌, Bool, true, false, Result, Ok, Err, OnOk, refl, sym, ◌∙◌, ap, subst, arith}
use Rattle.std.specs.Prelude.{IfErr}
use Rattle.std.proofs.lemmas.Bool.{false≢true}
use Rattle.std.proofs.lemmas.List.{append-nil}
use Rattle.log_host.specs.Host.{LeavesOnly}
use Rattle.durable_log.specs.Format.{LogRecord}
use Rattle.durable_log.specs.Logs.{records_of, waiting_in, IsSettled}
use Rattle.durable_log.specs.declared.log.Log.{Log}
use Rattle.durable_log.specs.declared.log.CommitFault.TheVariants as commits
use Rattle.durable_log.proofs.Moments.{weaker, then_leaves}
use Rattle.script_lines.specs.Device.{Told}
use Rattle.script_lines.specs.Unread.{Unread}
use Rattle.script_lines.specs.Lines.{complete_lines}
use Rattle.script_log.specs.Runs.{History, answering, Answering, after_all, history_of}
use Rattle.script_log.specs.Hosts.{Hosting, State, state_of, Account, account, account_of, GoesOn}
use Rattle.script_log.specs.Reading.{Reading, reading, lines_in}
use Rattle.script_log.specs.Passing.{standing, Passing}
use Rattle.script_log.specs.Outcomes.{HasAnswered}
use Rattle.script_log.specs.Faults.{is_broken, has_broken, UnlessBroken, all_records, IsFullWith, IsFullBy, HasBroken, HasCause}
use Rattle.script_log.specs.SoFar.{CoveredSince, account_due, RanSoFar}
use Rattle.script_log.specs.Ran.{Ran}
use Rattle.script_log.specs.declared.fault.RunFault.{RunFault}
use Rattle.script_log.specs.declared.fault.RunFault.TheVariants as faults
use Rattle.script_log.proofs.Failing.{OnlyNow, goes-none, goes-two}
use Rattle.script_log.proofs.Lines.{history-after}
use Rattle.script_log.proofs.Wanting.{lines-begun}
use Rattle.script_log.proofs.Going.{broken-answered, broken-unless}
use Rattle.script_log.proofs.Ending.{none-read}

unless-whole : (P : Type 0) (result : Result Unit RunFault) → has_broken result ≡ false → UnlessBroken result P → P
unless-whole P (Ok u) whole holds = holds
unless-whole P (Err f) whole holds = holds whole

unless-then : (P : Type 0) (result : Result Unit RunFault) → P → UnlessBroken result P
unless-then P (Ok u) holds = holds
unless-then P (Err f) holds = λ _. holds

unless-broken : (P : Type 0) (result : Result Unit RunFault) → has_broken result ≡ true → UnlessBroken result P
unless-broken P (Ok u) broken = absurd (false≢true broken)
unless-broken P (Err f) broken = broken-unless P f broken

ok-broken : (P : Type 0) (result : Result Unit RunFault) → has_broken result ≡ true → OnOk result P
ok-broken P (Ok u) broken = absurd (false≢true broken)
ok-broken P (Err f) broken = tt

answered-broken : (e : Answering) (old new : Account) (x : Reading) (result : Result Unit RunFault) → has_broken result ≡ true → HasAnswered e old x new result
answered-broken e old new x (Ok u) broken = absurd (false≢true broken)
answered-broken e old new x (Err f) broken = broken-answered e old new x f broken

module _ {D : Type 0} (d : Hosting D) (keeps : History → List ℕ → Bool) (reply : History → List ℕ → List ℕ) (stands : History → Type 0) (x : Reading) (log : Log D) where
  abbrev e : Answering
  e = answering keeps reply

  abbrev begun : State
  begun = state_of d log.host

  abbrev SoFar : Log D → List ℕ → Result Unit RunFault → Type 0
  SoFar mid out result = RanSoFar d e stands x log mid out result

  cause-by : (mid log1 : D) (f : RunFault) → is_broken f ≡ false → HasCause e begun x (state_of d mid) f → HasCause e begun x (state_of d log1) f
  cause-by mid log1 faults.Read whole cause = cause
  cause-by mid log1 faults.Write whole cause = absurd (false≢true (sym whole))
  cause-by mid log1 (faults.Log fault) whole cause = absurd (false≢true (sym whole))
  cause-by mid log1 faults.OutOfMemory whole cause = tt

  cause-whole : (mid log1 : D) (result : Result Unit RunFault) → has_broken result ≡ false
      → IfErr result (HasCause e begun x (state_of d mid)) → IfErr result (HasCause e begun x (state_of d log1))
  cause-whole mid log1 (Ok u) whole cause = tt
  cause-whole mid log1 (Err f) whole cause = cause-by mid log1 f whole cause

  -- the file is full with the lines that were answered
  full-whole : (now : Account) (file : List ℕ) (result : Result Unit RunFault) → has_broken result ≡ false
      → HasAnswered e (account_of begun) x now result → IsFullWith now.records file → IsFullBy e (records_of begun.file) (lines_in x) file
  full-whole now file (Ok u) whole answered full = (lines_in x, [], append-nil (lines_in x), subst (λ (rs : List LogRecord). IsFullWith rs file) answered.records_are full)
  full-whole now file (Err faults.Read) whole answered full = (lines_in x, [], append-nil (lines_in x), subst (λ (rs : List LogRecord). IsFullWith rs file) answered.records_are full)
  full-whole now file (Err faults.Write) whole answered full = absurd (false≢true (sym whole))
  full-whole now file (Err (faults.Log fault)) whole answered full = absurd (false≢true (sym whole))
  full-whole now file (Err faults.OutOfMemory) whole w full = (w.done, w.left.wants ++ w.left.others, w.left.split, subst (λ (rs : List LogRecord). IsFullWith rs file) w.answered.records_are full)

  -- why what waits could not be passed on
  stopped-cause : (mid log1 : Log D) (out : List ℕ) (result : Result Unit RunFault) (f : RunFault) → SoFar mid out result → has_broken result ≡ false
      → is_broken f ≡ true → HasBroken (all_records d.seen mid) (state_of d mid.host) (state_of d log1.host) f → HasCause e begun x (state_of d log1.host) f
  stopped-cause mid log1 out result faults.Read R whole broken cause = absurd (false≢true broken)
  stopped-cause mid log1 out result faults.Write R whole broken cause = omega (arith, R.goes_on.listener, cause)
  stopped-cause mid log1 out result (faults.Log commits.Failed) R whole broken cause = omega (arith, R.goes_on.file, cause)
  stopped-cause mid log1 out result (faults.Log commits.Full) R whole broken cause = full-whole (account_due d mid out) (d.seen log1.host) result whole R.run.answered cause
  stopped-cause mid log1 out result faults.OutOfMemory R whole broken cause = absurd (false≢true broken)

  -- the file or the listener failed before
  pub ran-broken : (mid : Log D) (out : List ℕ) (result : Result Unit RunFault) → SoFar mid out result → has_broken result ≡ true → Ran d e stands x log mid result
  ran-broken mid out result R broken = record {
    run = record {
      read = R.run.read;
      answered = answered-broken e (account_of begun) (account_of (state_of d mid.host)) x result broken;
      ended = ok-broken _ result broken;
      cause = R.run.cause;
    };
    goes_on = R.goes_on;
    idle = unless-broken _ result broken;
    stands_now = ok-broken _ result broken;
  }

  -- what waits could not be passed on
  pub ran-stopped : (mid log1 : Log D) (out : List ℕ) (result : Result Unit RunFault) (f : RunFault) → SoFar mid out result → has_broken result ≡ false → GoesOn d mid.host log1.host
      → is_broken f ≡ true → HasBroken (all_records d.seen mid) (state_of d mid.host) (state_of d log1.host) f → Ran d e stands x log log1 (Err f)
  ran-stopped mid log1 out result f R whole later broken cause = record {
    run = record {
      read = R.run.read;
      answered = broken-answered e (account_of begun) (account_of (state_of d log1.host)) x f broken;
      ended = tt;
      cause = stopped-cause mid log1 out result f R whole broken cause;
    };
    goes_on = goes-two d log.host mid.host log1.host R.goes_on later;
    idle = broken-unless _ f broken;
    stands_now = tt;
  }

  -- each moment, while what waits is passed on
  pub leaves-whole : (mid log1 : Log D) (out : List ℕ) (result : Result Unit RunFault) → SoFar mid out result → has_broken result ≡ false
      → LeavesOnly d.moment d.left_since mid.host log1.host (Passing (standing d.seen d.heard mid out))
      → LeavesOnly d.moment d.left_since log.host log1.host (CoveredSince d e x log)
  leaves-whole mid log1 out result R whole leaves =
      let P = CoveredSince d e x log in
      then_leaves d.moment d.left_since log.host mid.host log1.host P R.crashes.any_moment
      (weaker d.moment d.left_since mid.host log1.host (Passing (standing d.seen d.heard mid out)) P leaves (unless-whole _ result whole R.crashes.covers))

  answered-whole : (now now1 : Account) (result : Result Unit RunFault) → now1.records ≡ now.records → now1.heard ≡ now.heard → HasAnswered e (account_of begun) x now result → HasAnswered e (account_of begun) x now1 result
  answered-whole now now1 result same same_heard answered =
      subst (λ (n : Account). HasAnswered e (account_of begun) x n result) (λ i. account (sym same i) (sym same_heard i)) answered

  stands-whole : (now : Account) (result : Result Unit RunFault) → HasAnswered e (account_of begun) x now result
      → OnOk result (stands (after_all keeps (history_of (records_of begun.file)) (lines_in x))) → OnOk result (stands (history_of now.records))
  stands-whole now (Ok u) answered holds = subst stands (sym (ap history_of answered.records_are ∙ history-after keeps reply (records_of begun.file) (lines_in x))) holds
  stands-whole now (Err f) answered holds = tt

  -- all was passed on
  pub ran-whole : (mid log1 : Log D) (out : List ℕ) (result : Result Unit RunFault) → SoFar mid out result → has_broken result ≡ false → GoesOn d mid.host log1.host
      → records_of (d.seen log1.host) ≡ records_of (d.seen mid.host) ++ waiting_in mid → d.heard log1.host ≡ d.heard mid.host ++ out → IsSettled d.seen d.heard d.may_leave log1 → waiting_in log1 ≡ []
      → Ran d e stands x log log1 result
  ran-whole mid log1 out result R whole later records heard_is settled none =
      let answered = answered-whole (account_due d mid out) (account_of (state_of d log1.host)) result records heard_is R.run.answered in
      record {
        run = record {
          read = R.run.read;
          answered = answered;
          ended = R.run.ended;
          cause = cause-whole mid.host log1.host result whole R.run.cause;
        };
        goes_on = goes-two d log.host mid.host log1.host R.goes_on later;
        idle = unless-then _ result (settled, none);
        stands_now = stands-whole (account_of (state_of d log1.host)) result answered R.stands_now;
      }

-- memory was refused before the first line
pub ran-nothing : {D : Type 0} (d : Hosting D) (keeps : History → List ℕ → Bool) (reply : History → List ℕ → List ℕ) (stands : History → Type 0) (r : Told) (p : Unread) (log : Log D)
    → IsSettled d.seen d.heard d.may_leave log → waiting_in log ≡ [] → OnlyNow d log.host → Ran d (answering keeps reply) stands (reading r r p p) log log (Err faults.OutOfMemory)
ran-nothing d keeps reply stands r p log settled none only = record {
  run = record {
    read = none-read r p;
    answered = record {
      done = [];
      answered = record { records_are = sym (append-nil (records_of (d.seen log.host))); heard_is = sym (append-nil (d.heard log.host)) };
      left = record {
        wants = [];
        one = omega arith;
        others = complete_lines p.ended p.bytes;
        split = sym (lines-begun r p);
        at_hand = ([], refl);
      };
    };
    ended = tt;
    cause = tt;
  };
  goes_on = goes-none d log settled only;
  idle = λ _. (settled, none);
  stands_now = tt;
}
