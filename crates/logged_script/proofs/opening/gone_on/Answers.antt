use Rattle.std.proofs.Common.{not, eqb}
use Rattle.durable_log.specs.Logs.{records_of}
use Rattle.logged_script.proofs.Opened.{answers-begun}
use Rattle.logged_script.proofs.opening.gone_on.Goals as goal

pub returns-clause-answers : goal.returns-clause-answers
returns-clause-answers g c =
    answers-begun (not (eqb g.row.TAGS 0)) g.J.RowRepository.limit g.J.RowRepository.rows c.args.ran.engine (records_of c.args.file.items) (records_of c.in_ok-made.made.file.bytes.items) c.args.line.now c.args.ran.grown
    c.requires.goes_on c.in_ok-made.ensures.records c.requires.answers
