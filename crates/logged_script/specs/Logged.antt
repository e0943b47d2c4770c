-- The end of a script over a log.
use Rattle.std.specs.Prelude.{ℕ, ◌≡◌, ◌⊎◌, Bool, true, false, Result}
use Rattle.log_host.specs.Host.{Each, LeavesOnly, Only}
use Rattle.durable_log.specs.Logs.{records_of, IsAtRest, IsSealed, ButForGate, Same}
use Rattle.script_log.specs.Runs.{answering}
use Rattle.script_log.specs.Hosts.{Hosting, State}
use Rattle.script_log.specs.Reading.{Reading}
use Rattle.script_log.specs.Outcomes.{HasRun}
use Rattle.script_log.specs.Faults.{has_broken}
use Rattle.script_log.specs.declared.fault.RunFault.{RunFault}
use Rattle.logged_script.specs.Histories.{is_kept, reply_at}

-- HOW A SCRIPT OVER A LOG ENDS: as a run of its lines with the replies of a job repository
abbrev pub IsAnsweredOver : Bool → State → Reading → State → Result Unit RunFault → Type 0
IsAnsweredOver tags old x new result = HasRun (answering (is_kept tags) (reply_at tags)) old x new result

-- A FILE IS SEALED after all its bytes are on the disk: the calls behind `last` leave its records and what was heard. A crash
-- leaves the same records at each moment meanwhile, and afterwards all the bytes, but for any in place of the gate at their end.
-- It is sealed unless the file failed
pub record IsSealedAfter {D : Type 0} (d : Hosting D) (last new : D) : Type 0 where
  pub end : ℕ
  pub rest : IsAtRest (d.seen last) end
  pub durable : Only (d.seen last) (d.heard last) (d.may_leave last)
  pub any_moment : LeavesOnly d.moment d.left_since last new (Same (records_of (d.seen last)) (d.heard last))
  pub sealed : d.file_faults new ≡ d.file_faults last → IsSealed (d.seen new) end
  pub but_for_gate : Each (d.may_leave new) (ButForGate (d.seen last) end (d.heard last))
  pub records : records_of (d.seen new) ≡ records_of (d.seen last)
  pub heard : d.heard new ≡ d.heard last

-- a run ends: the file or the listener failed, and the file stays as it is; or it is sealed
abbrev pub Ends : {D : Type 0} → Hosting D → Result Unit RunFault → D → D → Type 0
Ends d result last new = ((has_broken result ≡ true) × (new ≡ last)) ⊎ ((has_broken result ≡ false) × IsSealedAfter d last new)
