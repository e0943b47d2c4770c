use Rattle.row_repository.specs.Shown.{with_shown_work}
use Rattle.base_text.specs.declared.line.BaseLine.TheVariants.{Work}
use Rattle.log_base.proofs.Written.{work_more, took, weaker}
use Rattle.log_base.proofs.writing.BaseCopyRowSink.take_work.Goals as goal

pub returns : goal.returns
returns g c =
    let rows = g.B.RowRestoration.rows in
    let old = c.args.self.now in
    let new = c.take.new.self in
    let row = c.args.row.now in
    weaker c.take.result (λ goes earlier s. goes earlier.base (rows earlier.rows) earlier.count s)
    (took old.base (rows old.rows) old.count new.base (rows new.rows) new.count c.take.result c.work_line-line.result (Work row) (λ s. with_shown_work s row) (work_more row) c.take.ensures.line c.take.ensures.next
    c.take.ensures.added c.take.ensures.counted c.work_line-line.ensures.line c.work_line-line.ensures.row)
