use Rattle.std.proofs.Common.{not, eqb}
use Rattle.durable_log.specs.Logs.{records_of}
use Rattle.script_log.specs.Runs.{history_of}
use Rattle.logged_script.proofs.Anew.{engine_keeps}
use Rattle.logged_script.proofs.Growing.{catalogue_is_short}
use Rattle.logged_script.proofs.to_compact.compacted_own.Goals as goal

pub new_file-requires-clause-short : goal.new_file-requires-clause-short
new_file-requires-clause-short g c = catalogue_is_short c.args.line.now c.requires.catalogue.0 c.requires.catalogue.1

pub returns-in-Ok-clause-compacted : goal.returns-in-Ok-clause-compacted
returns-in-Ok-clause-compacted g c =
    c.in_ok-made.ensures.over (history_of (records_of c.args.file.items)) c.requires.answers
    (engine_keeps (not (eqb g.row.TAGS 0)) g.J.RowRepository.limit g.J.RowRepository.rows c.args.own.engine c.args.file.items c.requires.answers _ c.requires.keeps)
