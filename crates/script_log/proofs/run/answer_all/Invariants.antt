use Rattle.durable_log.specs.Logs.{records_of, IsSettled}
use Rattle.script_lines.specs.Unread.{weight}
use Rattle.script_log.specs.Runs.{after_all, history_of}
use Rattle.script_log.specs.Hosts.{hosting, GoesOn}
use Rattle.script_log.specs.InTurn.{HasRoom}
use Rattle.script_log.specs.Passing.{standing}
use Rattle.script_log.proofs.Going.{Going}
use Rattle.script_log.proofs.run.answer_all.Given as goal

abbrev pub invariant-loop-line : goal.invariant-loop-line
invariant-loop-line g l = record {
  settled : IsSettled g.H.Host.seen g.H.Host.heard g.H.Host.may_leave l.log;
  going : Going g.E.Engine.keeps g.E.Engine.reply (records_of (g.H.Host.seen l.fn.log.host)) (g.H.Host.heard l.fn.log.host) g.H.Host.moment g.H.Host.left_since l.fn.log.host
      (g.R.Reader.tape l.fn.source) l.fn.input (g.R.Reader.tape l.source) l.input l.log.host (standing g.H.Host.seen g.H.Host.heard l.log l.output);
  stands : g.E.Engine.stands l.engine (after_all g.E.Engine.keeps (history_of (records_of (g.H.Host.seen l.fn.log.host))) going.done);
  room : HasRoom l.log;
  goes_on : GoesOn (hosting g.H.Host.seen g.H.Host.heard g.H.Host.may_leave g.H.Host.moment g.H.Host.left_since g.H.Host.origin g.H.Host.file_faults g.H.Host.listener_faults) l.fn.log.host l.log.host;
}

abbrev pub decreases-loop-line : goal.decreases-loop-line
decreases-loop-line g l = weight l.input
