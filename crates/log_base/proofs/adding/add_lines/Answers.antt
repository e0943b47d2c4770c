use Rattle.std.proofs.Common.{[]}
use Rattle.durable_log.specs.declared.record.Record.{Record}
use Rattle.log_base.proofs.Added.{added-slice}
use Rattle.log_base.proofs.adding.add_lines.Goals as goal

pub loop-rest-preserved : goal.loop-rest-preserved
loop-rest-preserved g c =
    let d : Record = record { mark = 0; line = record { ref_ptr = (0, 0); now = [] }; reply_check = 0 } in
    added-slice (g.B.RowRestoration.rows c.args.rows.now) c.args.lines.now c.loop-rest.rest.now d (g.B.RowRestoration.rows c.loop-rest.rows) (g.B.RowRestoration.rows c.add_line.new.rows) c.in-len1-up.len_at_least c.loop-rest.invariant
    c.in-Ok.ensures.next c.in-Ok.ensures.added
