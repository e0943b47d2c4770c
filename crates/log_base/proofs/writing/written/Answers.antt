use Rattle.std.proofs.Common.{List, subst}
use Rattle.durable_log.specs.Files.{StandsFor}
use Rattle.durable_log.specs.Format.{LogRecord}
use Rattle.log_base.proofs.Written.{no_rows, nothing_written, written_base}
use Rattle.log_base.proofs.writing.written.Goals as goal

pub returns-clause-base : goal.returns-clause-base
returns-clause-base g c =
    let rows = g.B.RowRestoration.rows in
    let copy = c.in_ok-copy.copy in
    let all = c.show_rows.new.sink in
    let shown = c.in-Ok.ensures in
    let file = c.base.inside.file.bytes.items in
    written_base g.J.RowRepository.limit c.args.catalogue (g.J.RowRepository.rows c.args.repository.now) c.args.line.now file c.in_ok-count.count copy.count all.count copy.base all.base (rows copy.rows) (rows all.rows)
    shown.0 c.in_ok-copy.ensures shown.1 (shown.2 copy no_rows (nothing_written copy.base (rows copy.rows) copy.count)) c.if-copy-count.false
    (subst (λ (rs : List LogRecord). StandsFor rs file) c.base.view_is c.base.invariant.1)
