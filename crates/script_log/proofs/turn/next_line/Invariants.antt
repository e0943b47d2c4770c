use Rattle.script_log.specs.Hosts.{hosting}
use Rattle.script_log.proofs.Turning.{Turning}
use Rattle.script_log.proofs.turn.next_line.Given as goal

abbrev pub invariant-reads : goal.invariant-reads
invariant-reads g l = Turning (hosting g.H.Host.seen g.H.Host.heard g.H.Host.may_leave g.H.Host.moment g.H.Host.left_since g.H.Host.origin g.H.Host.file_faults g.H.Host.listener_faults) (g.R.Reader.tape l.fn.source) (g.R.Reader.tape l.source) l.fn.input l.input l.part l.fn.log l.log l.fn.output l.output

abbrev pub decreases-reads : goal.decreases-reads
decreases-reads g l = l.input.reads_left
