use Rattle.std.proofs.Common.{Option, ap, subst}
use Rattle.std.specs.Option.{option_copied}
use Rattle.job_plans.specs.Cursors.{CursorState}
use Rattle.seq_repository.proofs.Walked.{ready_walked, row_walked}
use Rattle.seq_repository.specs.Following.{Walks}
use Rattle.seq_repository.proofs.entering.execution_after.Goals as goal

pub returns-clause-row : goal.returns-clause-row
returns-clause-row c = λ catalogue works walks.
    row_walked c.args.change catalogue works c.args.at (option_copied c.args.owner) c.in-Some-Some.row.now _ c.in-Some-Some.cursor c.value-value.result.now
    (ap option_copied c.in-Some-Some.is-0)
    (subst (λ (o : Option CursorState). Walks catalogue works (option_copied c.args.owner) o) c.in-Some-Some.is-1 walks)
    c.value-value.ensures.value c.in_ok-new.ensures

pub returns-clause-ready : goal.returns-clause-ready
returns-clause-ready c = λ catalogue works walks.
    ready_walked c.args.change catalogue works c.args.at (option_copied c.args.owner) c.in-Some-Some.row.now _ c.in-Some-Some.cursor c.value-value.result.now
    c.first_ready.result _ _ _
    (ap option_copied c.in-Some-Some.is-0)
    (subst (λ (o : Option CursorState). Walks catalogue works (option_copied c.args.owner) o) c.in-Some-Some.is-1 walks)
    c.value-value.ensures.value c.in_ok-new.ensures c.first_ready.ensures c.is_some-shown.ensures c.status.ensures c.has_something-ready.ensures
