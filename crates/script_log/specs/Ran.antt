-- The state after a run.
use Rattle.std.specs.Prelude.{◌≡◌, [], Result, OnOk}
use Rattle.durable_log.specs.Logs.{records_of, waiting_in, IsSettled}
use Rattle.durable_log.specs.declared.log.Log.{Log}
use Rattle.script_log.specs.Runs.{History, Answering, history_of}
use Rattle.script_log.specs.Hosts.{Hosting, state_of, GoesOn}
use Rattle.script_log.specs.Reading.{Reading}
use Rattle.script_log.specs.Faults.{UnlessBroken}
use Rattle.script_log.specs.Outcomes.{HasRun}
use Rattle.script_log.specs.declared.fault.RunFault.{RunFault}

-- the log is settled
abbrev pub IsSettledNow : {D : Type 0} → Hosting D → Log D → Type 0
IsSettledNow d log = IsSettled d.seen d.heard d.may_leave log

-- the log is settled, and nothing waits in it
abbrev pub IsIdle : {D : Type 0} → Hosting D → Log D → Type 0
IsIdle d log = IsSettledNow d log × (waiting_in log ≡ [])

-- the history of the records on the disk
abbrev pub history_in : {D : Type 0} → Hosting D → Log D → History
history_in d log = history_of (records_of (d.seen log.host))

module _ {D : Type 0} (d : Hosting D) (e : Answering) (stands : History → Type 0) (x : Reading) (log log' : Log D) where
  -- THE RUN OF LINES OVER A LOG: its result, the log after it, and the history that the engine represents
  pub record Ran (result : Result Unit RunFault) : Type 0 where
    pub run : HasRun e (state_of d log.host) x (state_of d log'.host) result
    pub goes_on : GoesOn d log.host log'.host
    pub idle : UnlessBroken result (IsIdle d log')
    pub stands_now : OnOk result (stands (history_in d log'))
