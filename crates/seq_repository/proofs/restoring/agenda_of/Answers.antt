use Rattle.std.proofs.Common.{◌∙◌, ap}
use Rattle.std.proofs.lemmas.Result.{err_from_is_err_and}
use Rattle.records.specs.Slots.{rows_left}
use Rattle.seq_repository.proofs.Gathering.{gathered_none, gathered_settled, placed_next, settled_next}
use Rattle.seq_repository.proofs.restoring.agenda_of.Goals as goal

pub loop-row-init : goal.loop-row-init
loop-row-init c =
    gathered_none c.args.catalogue.now c.args.records.now.works c.args.records.now.executions _ _
    (ap rows_left c.into_iter-row-iterator.ensures.into_iter_gives ∙ c.executions-row-items.ensures) c.new-agenda.ensures.empty

pub ready_if_settled-requires : goal.ready_if_settled-requires
ready_if_settled-requires c =
    placed_next c.args.catalogue.now c.args.records.now.works c.args.records.now.executions (rows_left c.loop-row.row-iterator) (rows_left c.next.new.self) c.loop-row.agenda.keys c.in-Some.row.now
    c.loop-row.invariant c.in-Some.ensures.steps c.requires.placed

pub returns-in_err-ready-clause-settled : goal.returns-in_err-ready-clause-settled
returns-in_err-ready-clause-settled c =
    let p = err_from_is_err_and c.from_residual.result c.from_residual.ensures.1 in rw (p.1, p.2) (λ apart settled.
    c.in_err-ready.ensures.settled apart
    (settled_next c.args.catalogue.now c.args.records.now.works c.args.records.now.executions (rows_left c.loop-row.row-iterator) (rows_left c.next.new.self) c.loop-row.agenda.keys c.in-Some.row.now
    c.loop-row.invariant c.in-Some.ensures.steps c.requires.rising settled))

pub returns-clause-settled : goal.returns-clause-settled
returns-clause-settled c =
    gathered_settled c.args.catalogue.now c.args.records.now.works c.args.records.now.executions (rows_left c.loop-row.row-iterator) c.loop-row.agenda.keys c.loop-row.invariant c.in-None.ensures.steps.0
