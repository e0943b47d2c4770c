use Rattle.std.proofs.Common.{◌≡◌, ◌≤◌, ◌-◌, ◌++◌, [], length, take}
use Rattle.log_host.specs.Host.{LeavesOnly}
use Rattle.durable_log.specs.Logs.{records_of, IsSettled, waiting_in, Told}
use Rattle.script_log.specs.Hosts.{hosting, GoesOn}
use Rattle.script_log.proofs.passing.tell_all.Given as goal

abbrev pub invariant-loop-at : goal.invariant-loop-at
invariant-loop-at g l = record {
  within : l.at ≤ length l.text;
  goes_on : GoesOn (hosting g.H.Host.seen g.H.Host.heard g.H.Host.may_leave g.H.Host.moment g.H.Host.left_since g.H.Host.origin g.H.Host.file_faults g.H.Host.listener_faults) l.fn.log.host l.log.host;
  told : g.H.Host.heard l.log.host ≡ g.H.Host.heard l.fn.log.host ++ take l.at l.text;
  settled : IsSettled g.H.Host.seen g.H.Host.heard g.H.Host.may_leave l.log;
  nothing_waits : waiting_in l.log ≡ [];
  seen : g.H.Host.seen l.log.host ≡ g.H.Host.seen l.fn.log.host;
  any_moment : LeavesOnly g.H.Host.moment g.H.Host.left_since l.fn.log.host l.log.host (Told (records_of (g.H.Host.seen l.fn.log.host)) (g.H.Host.heard l.fn.log.host) l.text);
}

abbrev pub decreases-loop-at : goal.decreases-loop-at
decreases-loop-at g l = length l.text - l.at
