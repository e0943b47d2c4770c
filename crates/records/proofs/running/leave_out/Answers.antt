use Rattle.std.proofs.Common.{Some, sym, subst}
use Rattle.batch_history.specs.Lists.{change_first}
use Rattle.batch_history.specs.Replies.{is_execution}
use Rattle.records.specs.Indexes.{AreRunning}
use Rattle.records.proofs.Unfinished.{one_number, running_left}
use Rattle.records.proofs.running.leave_out.Goals as goal

pub returns-in-Some : goal.returns-in-Some
returns-in-Some c = λ rows old found job instance was now known.
    let here : AreRunning (Some c.in-Some.lists.now) rows = subst (λ r. AreRunning r rows) (sym c.in-Some.ensures.value) known in
    running_left c.in-Some.lists.now c.remove.new.self c.args.row.now.execution old c.args.row.now rows found job instance
    (one_number c.args.row.now.execution old rows found) was now here
    c.remove.ensures.named c.remove.ensures.owned

pub returns-in_default : goal.returns-in_default
returns-in_default c = λ rows old found job instance was now known.
    subst (λ r. AreRunning r (change_first (is_execution c.args.row.now.execution) (λ gone. c.args.row.now) rows)) c.in_default.ensures.value tt
