use Rattle.std.proofs.Common.{not, eqb, ap}
use Rattle.logged_script.proofs.Compacting.{answers_anew, compacted_of, compacted_over}
use Rattle.logged_script.proofs.compaction.compacted.Goals as goal

pub returns-in-Ok-over-clause-compacted : goal.returns-in-Ok-over-clause-compacted
returns-in-Ok-over-clause-compacted g c = λ h answers jobs.
    let rows = g.J.RowRepository.rows in
    compacted_of (not (eqb g.row.TAGS 0)) g.J.RowRepository.limit (rows c.repository.result.now) c.args.line.now c.in_ok-made.made.file.bytes.items c.in-Ok.catalogue c.in-Ok.ensures.read c.in_ok-made.ensures.log
    rows c.args.engine.now h (ap rows c.repository.ensures) answers jobs

pub returns-in-Ok-over-clause-answers : goal.returns-in-Ok-over-clause-answers
returns-in-Ok-over-clause-answers g c =
    let rows = g.J.RowRepository.rows in
    answers_anew (not (eqb g.row.TAGS 0)) g.J.RowRepository.limit (rows c.repository.result.now) c.args.line.now c.in_ok-made.made.file.bytes.items c.in-Ok.catalogue c.in-Ok.ensures.read c.in_ok-made.ensures.log
    rows c.in-Ok-over.engine c.in_ok-made.made.repository c.requires.limit c.in-Ok-over.ensures c.in_ok-made.ensures.rows

pub returns-in-Ok-over-clause-over : goal.returns-in-Ok-over-clause-over
returns-in-Ok-over-clause-over g c = λ h answers keeps.
    let rows = g.J.RowRepository.rows in
    compacted_over (not (eqb g.row.TAGS 0)) g.J.RowRepository.limit (rows c.repository.result.now) c.args.line.now c.in_ok-made.made.file.bytes.items c.in-Ok.catalogue c.in-Ok.ensures.read c.in_ok-made.ensures.log
    rows c.args.engine.now h (ap rows c.repository.ensures) answers keeps
