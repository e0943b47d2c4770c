-- Why a log is of no more use, and what goes on meanwhile.
use Rattle.std.proofs.Common.{◌≡◌, ℕ, ◌<◌, ◌≤◌, ◌^◌, ◌+◌, List, [], length, refl, sym, ◌∙◌, ap, subst, arith}
use Rattle.std.proofs.lemmas.List.{length-append}
use Rattle.log_host.specs.Host.{Outcomes, LeavesOnly}
use Rattle.durable_log.specs.Format.{LogRecord, shut}
use Rattle.durable_log.specs.Logs.{waiting_in, behind_gate, link_of, IsSettled, Unsealed}
use Rattle.durable_log.specs.declared.link.Link.{Link}
use Rattle.durable_log.specs.declared.log.Log.{Log}
use Rattle.durable_log.specs.declared.log.CommitFault.{CommitFault}
use Rattle.durable_log.specs.declared.log.CommitFault.TheVariants as commits
use Rattle.durable_log.proofs.Moments.{begun, then_leaves}
use Rattle.durable_log.proofs.Sealing.{settled-unsealed}
use Rattle.script_log.specs.Hosts.{Hosting, state_of, GoesOn}
use Rattle.script_log.specs.Faults.{all_records, IsFullWith, HasFailed, HasBroken}
use Rattle.script_log.specs.InTurn.{HasRoom}
use Rattle.script_log.specs.declared.fault.RunFault.{RunFault}
use Rattle.script_log.specs.declared.fault.RunFault.TheVariants as faults

-- the file of a log that is full
full-file : {D : Type 0} (seen heard : D → List ℕ) (may_leave : D → Outcomes) (log : Log D) → IsSettled seen heard may_leave log → 2 ^ 62 ≤ log.end + length log.waiting.items → IsFullWith (all_records seen log) (seen log.host)
full-file seen heard may_leave log settled size =
    let rest = settled.rest in
    let file : length (seen log.host) ≡ length rest.base + length shut = ap length rest.split ∙ length-append rest.base shut in
    let waits : length log.waiting.items ≡ length (behind_gate (link_of (seen log.host)) (waiting_in log)) = ap length (settled.waits ∙ ap (λ (link : Link). behind_gate link (waiting_in log)) settled.link) in
    (waiting_in log, refl, omega (arith, size, rest.place, file, waits))

module _ {D : Type 0} (d : Hosting D) where
  -- why a commit failed
  pub commit-failed : (old new : Log D) (f : CommitFault) → IsSettled d.seen d.heard d.may_leave old → (f ≡ commits.Failed → d.file_faults old.host < d.file_faults new.host)
      → (f ≡ commits.Full → (new ≡ old) × (2 ^ 62 ≤ old.end + length old.waiting.items)) → HasFailed (all_records d.seen old) (state_of d old.host) (state_of d new.host) f
  commit-failed old new commits.Failed settled failed full = failed refl
  commit-failed old new commits.Full settled failed full =
      let is = full refl in
      subst (λ (log : Log D). IsFullWith (all_records d.seen old) (d.seen log.host)) (sym is.0) (full-file d.seen d.heard d.may_leave old settled is.1)

  -- there is room for a record if none waits
  pub none-short : (log : Log D) → IsSettled d.seen d.heard d.may_leave log → waiting_in log ≡ [] → HasRoom log
  none-short log settled none = let is : length log.waiting.items ≡ 0 = ap length (settled.waits ∙ ap (behind_gate log.link) none) in omega (arith, is)

  -- the current moment is the only one since itself
  abbrev pub OnlyNow : D → Type 0
  OnlyNow host = (c o : List ℕ) → d.left_since host (d.moment host) c o → d.may_leave host c o

  pub goes-none : (log : Log D) → IsSettled d.seen d.heard d.may_leave log → OnlyNow log.host → GoesOn d log.host log.host
  goes-none log settled only = record {
    file = omega arith;
    listener = omega arith;
    origin = refl;
    unsealed = begun d.moment d.left_since log.host Unsealed (λ c o left. settled-unsealed d.seen d.heard d.may_leave log settled c o (only c o left));
  }

  pub goes-two : (a b c : D) → GoesOn d a b → GoesOn d b c → GoesOn d a c
  goes-two a b c first second = record {
    file = omega (arith, first.file, second.file);
    listener = omega (arith, first.listener, second.listener);
    origin = second.origin ∙ first.origin;
    unsealed = then_leaves d.moment d.left_since a b c Unsealed first.unsealed second.unsealed;
  }

  -- a commit
  pub goes-written : (a b : D) → d.file_faults a ≤ d.file_faults b → d.listener_faults b ≡ d.listener_faults a → d.origin b ≡ d.origin a → LeavesOnly d.moment d.left_since a b Unsealed → GoesOn d a b
  goes-written a b later same origin unsealed = record { file = later; listener = omega (arith, same); origin = origin; unsealed = unsealed }

  -- a piece that was told
  pub goes-told : (a b : D) → d.listener_faults a ≤ d.listener_faults b → d.file_faults b ≡ d.file_faults a → d.origin b ≡ d.origin a → LeavesOnly d.moment d.left_since a b Unsealed → GoesOn d a b
  goes-told a b later same origin unsealed = record { file = omega (arith, same); listener = later; origin = origin; unsealed = unsealed }

  -- a cause counts from an earlier moment, too, if no record came since
  failed-later : (start old new : D) (known now : List LogRecord) (f : CommitFault) → GoesOn d start old → now ≡ known → HasFailed now (state_of d old) (state_of d new) f → HasFailed known (state_of d start) (state_of d new) f
  failed-later start old new known now commits.Failed later same cause = omega (arith, later.file, cause)
  failed-later start old new known now commits.Full later same cause = subst (λ (rs : List LogRecord). IsFullWith rs (d.seen new)) same cause

  pub broken-later : (start old new : D) (known now : List LogRecord) (f : RunFault) → GoesOn d start old → now ≡ known → HasBroken now (state_of d old) (state_of d new) f → HasBroken known (state_of d start) (state_of d new) f
  broken-later start old new known now faults.Read later same cause = tt
  broken-later start old new known now faults.Write later same cause = omega (arith, later.listener, cause)
  broken-later start old new known now (faults.Log fault) later same cause = failed-later start old new known now fault later same cause
  broken-later start old new known now faults.OutOfMemory later same cause = tt
