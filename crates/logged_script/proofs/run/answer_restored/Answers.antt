use Rattle.std.proofs.Common.{not, eqb}
use Rattle.durable_log.specs.Logs.{records_of}
use Rattle.script_lines.specs.Lines.{lines_since}
use Rattle.script_log.specs.Hosts.{hosting}
use Rattle.logged_script.specs.Histories.{is_kept, reply_at}
use Rattle.logged_script.proofs.Sealed.{covered-ended, run-ended}
use Rattle.logged_script.proofs.run.answer_restored.Goals as goal

pub returns-clause-any_moment : goal.returns-clause-any_moment
returns-clause-any_moment g c =
    let tags = not (eqb g.row.TAGS 0) in
    let d = hosting g.H.Host.seen g.H.Host.heard g.H.Host.may_leave g.H.Host.moment g.H.Host.left_since g.H.Host.origin g.H.Host.file_faults g.H.Host.listener_faults in
    let old = c.args.log.host in
    let last = c.answer_lines-outcome.new.log.host in
    let leaves = c.answer_lines-outcome.ensures.any_moment in
    let now = leaves.each (g.H.Host.seen last) (g.H.Host.heard last) (g.met.H.Host.counts_now last (g.H.Host.moment old) (g.H.Host.seen last) (g.H.Host.heard last) leaves.later (g.met.H.Host.leaves_now last)) in
    covered-ended d last c.end_log-host.result (is_kept tags) (reply_at tags) (records_of (g.H.Host.seen old)) (lines_since (g.R.Reader.tape c.args.source.now) (g.R.Reader.tape c.answer_lines-outcome.new.source) c.args.input.now)
    (g.H.Host.heard old) old _ leaves now c.end_log-host.ensures.ends

pub returns-clause-outcome : goal.returns-clause-outcome
returns-clause-outcome g c =
    let d = hosting g.H.Host.seen g.H.Host.heard g.H.Host.may_leave g.H.Host.moment g.H.Host.left_since g.H.Host.origin g.H.Host.file_faults g.H.Host.listener_faults in
    run-ended d c.answer_lines-outcome.new.log.host c.end_log-host.result _ _ _ _ c.end_log-host.ensures.ends c.answer_lines-outcome.ensures.ran.run

pub returns-clause-sealing : goal.returns-clause-sealing
returns-clause-sealing g c = (c.answer_lines-outcome.new.log.host, c.answer_lines-outcome.ensures.ran.goes_on, c.end_log-host.ensures.ends)
