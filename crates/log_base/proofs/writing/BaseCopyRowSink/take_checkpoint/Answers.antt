use Rattle.row_repository.specs.Shown.{with_shown_checkpoint}
use Rattle.base_text.specs.declared.line.BaseLine.TheVariants.{Checkpoint}
use Rattle.log_base.proofs.Written.{checkpoint_more, took, weaker}
use Rattle.log_base.proofs.writing.BaseCopyRowSink.take_checkpoint.Goals as goal

pub returns : goal.returns
returns g c =
    let rows = g.B.RowRestoration.rows in
    let old = c.args.self.now in
    let new = c.take.new.self in
    let row = c.args.row.now in
    weaker c.take.result (λ goes earlier s. goes earlier.base (rows earlier.rows) earlier.count s)
    (took old.base (rows old.rows) old.count new.base (rows new.rows) new.count c.take.result c.checkpoint_line-line.result (Checkpoint row) (λ s. with_shown_checkpoint s row) (checkpoint_more row) c.take.ensures.line c.take.ensures.next
    c.take.ensures.added c.take.ensures.counted c.checkpoint_line-line.ensures.line c.checkpoint_line-line.ensures.row)
