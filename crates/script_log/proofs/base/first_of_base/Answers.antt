use Rattle.std.proofs.Common.{◌≡◌, [], true, false, slice_index_or, rules, tests}
use Rattle.durable_log.specs.Shown.{record_shown}
use Rattle.durable_log.specs.declared.record.Record.{Record}
use Rattle.script_log.specs.Runs.{is_base}
use Rattle.script_log.proofs.Based.{past-on, past-found}
use Rattle.script_log.proofs.base.first_of_base.Goals as goal

pub returns-then-entry-eq-BASE_MARK : goal.returns-then-entry-eq-BASE_MARK
returns-then-entry-eq-BASE_MARK c =
    let d : Record = record { mark = 0; line = record { ref_ptr = (0, 0); now = [] }; reply_check = 0 } in
    let mark : is_base (record_shown (slice_index_or c.loop-rest.rest.now 0 d)) ≡ true = search (rules, tests) in
    past-found c.args.records.now c.loop-rest.rest.now d c.in-len1-up.len_at_least c.loop-rest.invariant mark

pub loop-rest-preserved : goal.loop-rest-preserved
loop-rest-preserved c =
    let d : Record = record { mark = 0; line = record { ref_ptr = (0, 0); now = [] }; reply_check = 0 } in
    let other : is_base (record_shown (slice_index_or c.loop-rest.rest.now 0 d)) ≡ false = search (rules, tests) in
    past-on c.args.records.now c.loop-rest.rest.now d c.in-len1-up.len_at_least c.loop-rest.invariant other
