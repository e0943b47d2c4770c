use Rattle.std.proofs.Common.{◌∙◌, ap, sym}
use Rattle.log_base.proofs.Written.{log_of_rows}
use Rattle.log_base.proofs.writing.rebuilt_log.Goals as goal

pub returns-clause-log : goal.returns-clause-log
returns-clause-log g c =
    let rows = g.J.RowRepository.rows in
    (log_of_rows g.J.RowRepository.limit c.args.catalogue (rows c.args.repository.now) c.args.line.now c.in_ok-file.file.bytes.items (g.B.RowRestoration.rows c.in_ok-file.rows) c.in_ok-file.ensures.base
    c.in-Ok.ensures.settled
    (ap (λ r. r.instances) (sym c.in-Ok.ensures.restored) ∙ c.has_instances_of.ensures c.if-not-has_instances_of.false)).0

pub returns-clause-rows : goal.returns-clause-rows
returns-clause-rows g c =
    let rows = g.J.RowRepository.rows in
    c.in-Ok.ensures.restored
    ∙ (log_of_rows g.J.RowRepository.limit c.args.catalogue (rows c.args.repository.now) c.args.line.now c.in_ok-file.file.bytes.items (g.B.RowRestoration.rows c.in_ok-file.rows) c.in_ok-file.ensures.base
    c.in-Ok.ensures.settled
    (ap (λ r. r.instances) (sym c.in-Ok.ensures.restored) ∙ c.has_instances_of.ensures c.if-not-has_instances_of.false)).1
