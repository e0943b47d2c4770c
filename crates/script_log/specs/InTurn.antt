-- A call for the next line that passes on the waiting records and replies before each read.
use Rattle.std.specs.Prelude.{ℕ, ◌≡◌, ◌≤◌, ◌^◌, List, ◌++◌, false, length, Option, Result, Ok, Err, IfErr}
use Rattle.log_host.specs.Host.{LeavesOnly}
use Rattle.durable_log.specs.Logs.{IsSettled}
use Rattle.durable_log.specs.declared.log.Log.{Log}
use Rattle.script_lines.specs.declared.line.Line.{Line}
use Rattle.script_lines.specs.Cut.{has_feed}
use Rattle.script_lines.specs.Unread.{Unread}
use Rattle.script_lines.specs.Lines.{LineRead}
use Rattle.script_log.specs.Hosts.{Hosting, state_of, GoesOn}
use Rattle.script_log.specs.Reading.{Reading}
use Rattle.script_log.specs.Faults.{line_result, UnlessBroken, all_records, HasBroken}
use Rattle.script_log.specs.Passing.{standing, Passing, IsPassedOn}
use Rattle.script_log.specs.declared.fault.RunFault.{RunFault}
use Rattle.script_log.specs.declared.fault.RunFault.TheVariants as faults

-- there is room for one more record
abbrev pub HasRoom : {D : Type 0} → Log D → Type 0
HasRoom log = length log.waiting.items ≤ 2 ^ 24

-- a part of a line was read, and the other bytes are at hand
pub record IsCutShort (bytes : List ℕ) (before left : Unread) : Type 0 where
  pub part : List ℕ
  pub no_feed : has_feed part ≡ false
  pub split : bytes ≡ part ++ left.bytes
  pub begun : before.ended ≡ false
  pub running : left.ended ≡ false

module _ (bytes : List ℕ) (before left : Unread) where
  -- if memory was refused for a line, the bytes behind its part are at hand
  abbrev pub IsCutShortIf : Result (Option Line) RunFault → Type 0
  IsCutShortIf (Ok line) = Unit {0}
  IsCutShortIf (Err faults.Read) = Unit {0}
  IsCutShortIf (Err faults.Write) = Unit {0}
  IsCutShortIf (Err (faults.Log fault)) = Unit {0}
  IsCutShortIf (Err faults.OutOfMemory) = IsCutShort bytes before left

-- the next line was cut off, and meanwhile nothing was done except passing on the waiting records and replies
pub record LineInTurn {D : Type 0} (d : Hosting D) (x : Reading) (log log' : Log D) (out out' : List ℕ) (result : Result (Option Line) RunFault) : Type 0 where
  pub line : LineRead x.from x.to x.before x.left (line_result result)
  pub wants : IsCutShortIf (x.before.bytes ++ line.more) x.before x.left result
  pub settled : UnlessBroken result (IsSettled d.seen d.heard d.may_leave log')
  pub room : UnlessBroken result (HasRoom log → HasRoom log')
  pub passed_on : UnlessBroken result (IsPassedOn (standing d.seen d.heard log out) (standing d.seen d.heard log' out'))
  pub any_moment : LeavesOnly d.moment d.left_since log.host log'.host (Passing (standing d.seen d.heard log out))
  pub goes_on : GoesOn d log.host log'.host
  pub cause : IfErr result (HasBroken (all_records d.seen log) (state_of d log.host) (state_of d log'.host))
