use Rattle.std.proofs.Common.{[], ◌∷◌, refl}
use Rattle.script_log.specs.Runs.{catalogue_record, records_of_lines, history_of}
use Rattle.script_log.proofs.Staying.{place-more, lines-no-base}
use Rattle.script_log.proofs.law.the_base_stays_in_its_place.Goals as goal

pub returns-clause-run : goal.returns-clause-run
returns-clause-run c keeps reply records base lines is = place-more records (records_of_lines keeps reply (history_of records) lines) base is (lines-no-base keeps reply (history_of records) lines)

pub returns-clause-catalogue : goal.returns-clause-catalogue
returns-clause-catalogue c records base text is = place-more records (catalogue_record text ∷ []) base is (refl, tt)
