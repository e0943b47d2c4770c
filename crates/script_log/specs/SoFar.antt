-- A run before the waiting records and replies at its end are passed on.
use Rattle.std.specs.Prelude.{ℕ, List, ◌++◌, Result, OnOk}
use Rattle.log_host.specs.Host.{Outcomes, LeavesOnly}
use Rattle.durable_log.specs.Logs.{records_of}
use Rattle.durable_log.specs.declared.log.Log.{Log}
use Rattle.script_log.specs.Runs.{History, Answering, after_all}
use Rattle.script_log.specs.Hosts.{Hosting, state_of, Account, account, GoesOn}
use Rattle.script_log.specs.Reading.{Reading, lines_in}
use Rattle.script_log.specs.Covered.{Covered}
use Rattle.script_log.specs.Faults.{all_records, UnlessBroken}
use Rattle.script_log.specs.Passing.{standing, Passing}
use Rattle.script_log.specs.Outcomes.{RunsTo}
use Rattle.script_log.specs.Ran.{history_in, IsSettledNow}
use Rattle.script_log.specs.declared.fault.RunFault.{RunFault}

-- the outcomes of a crash in a run that began with this log
abbrev pub CoveredSince : {D : Type 0} → Hosting D → Answering → Reading → Log D → Outcomes
CoveredSince d e x log = Covered e.keeps e.reply (records_of (d.seen log.host)) (lines_in x) (d.heard log.host)

-- the account after the waiting records and replies are passed on
abbrev pub account_due : {D : Type 0} → Hosting D → Log D → List ℕ → Account
account_due d log output = account (all_records d.seen log) (d.heard log.host ++ output)

-- a crash while the waiting records and replies are passed on leaves no other outcome
abbrev pub Covers : {D : Type 0} → Hosting D → Log D → List ℕ → Outcomes → Type 0
Covers d log output P = (file o : List ℕ) → Passing (standing d.seen d.heard log output) file o → P file o

-- a crash so far, and while the waiting records and replies are passed on, leaves no other outcome
pub record AreCovered {D : Type 0} (d : Hosting D) (log log' : Log D) (output : List ℕ) (result : Result Unit RunFault) (P : Outcomes) : Type 0 where
  pub any_moment : LeavesOnly d.moment d.left_since log.host log'.host P
  pub covers : UnlessBroken result (Covers d log' output P)

-- the history after the lines of a run
abbrev pub history_past : {D : Type 0} → Hosting D → Answering → Log D → Reading → History
history_past d e log x = after_all e.keeps (history_in d log) (lines_in x)

module _ {D : Type 0} (d : Hosting D) (e : Answering) (stands : History → Type 0) (x : Reading) (log log' : Log D) where
  -- the run comes to this result if the waiting records and replies are passed on
  abbrev pub RunsSoFar : List ℕ → Result Unit RunFault → Type 0
  RunsSoFar output result = RunsTo e (state_of d log.host) x (account_due d log' output) (state_of d log'.host) result

  -- the lines that were delivered have had their replies after the waiting records and replies are passed on
  pub record RanSoFar (output : List ℕ) (result : Result Unit RunFault) : Type 0 where
    pub run : RunsSoFar output result
    pub crashes : AreCovered d log log' output result (CoveredSince d e x log)
    pub goes_on : GoesOn d log.host log'.host
    pub settled : UnlessBroken result (IsSettledNow d log')
    pub stands_now : OnOk result (stands (history_past d e log x))
