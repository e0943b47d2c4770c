use Rattle.std.proofs.Common.{◌≡◌, [], true, false, slice_index_or, rules, tests}
use Rattle.durable_log.specs.Shown.{record_shown}
use Rattle.durable_log.specs.declared.record.Record.{Record}
use Rattle.script_log.specs.Runs.{is_catalogue}
use Rattle.script_log.specs.Catalogues.{last_shown}
use Rattle.script_log.proofs.Catalogued.{walked-on, walked-found}
use Rattle.script_log.proofs.catalogue.find_catalogues.Goals as goal

pub loop-rest-preserved-then-entry-eq-CATALOGUE_MARK : goal.loop-rest-preserved-then-entry-eq-CATALOGUE_MARK
loop-rest-preserved-then-entry-eq-CATALOGUE_MARK c =
    let d : Record = record { mark = 0; line = record { ref_ptr = (0, 0); now = [] }; reply_check = 0 } in
    let mark : is_catalogue (record_shown (slice_index_or c.loop-rest.rest.now 0 d)) ≡ true = search (rules, tests) in
    walked-found c.args.records.now c.loop-rest.rest.now d (last_shown c.loop-rest.last) c.in-len1-up.len_at_least c.loop-rest.invariant mark

pub loop-rest-preserved : goal.loop-rest-preserved
loop-rest-preserved c =
    let d : Record = record { mark = 0; line = record { ref_ptr = (0, 0); now = [] }; reply_check = 0 } in
    let other : is_catalogue (record_shown (slice_index_or c.loop-rest.rest.now 0 d)) ≡ false = search (rules, tests) in
    walked-on c.args.records.now c.loop-rest.rest.now d (last_shown c.loop-rest.last) c.in-len1-up.len_at_least c.loop-rest.invariant other
