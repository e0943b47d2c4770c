use Rattle.std.proofs.Common.{◌-◌, ◌∙◌, sym, length}
use Rattle.durable_log.specs.Format.{shut, seal}
use Rattle.durable_log.proofs.Found.{part-stands, part-ends, part-link, part-within, part-with, part-gate, part-fault}
use Rattle.durable_log.proofs.reading.read_log.Goals as goal

pub returns-in-Err-clause-fault : goal.returns-in-Err-clause-fault
returns-in-Err-clause-fault c = part-fault c.args.file.now c.in_ok-rest.rest.now c.in-Err.fault c.in_ok-rest.ensures.ours.0 c.in-Err.ensures.fault

pub overflow_sub-end : goal.overflow_sub-end
overflow_sub-end c = part-within c.args.file.now c.in_ok-rest.rest.now c.in_ok-rest.ensures.ours.0 _ _ c.in-Ok.ensures.records

pub returns-clause-records : goal.returns-clause-records
returns-clause-records c = part-stands c.args.file.now c.in_ok-rest.rest.now c.in_ok-rest.ensures.ours.0 _ _ c.in-Ok.ensures.records

pub returns-clause-end : goal.returns-clause-end
returns-clause-end c =
    let file = c.args.file.now in
    let part = c.in_ok-rest.rest.now in
    let ours = c.in_ok-rest.ensures.ours.0 in
    let all = c.in-Ok.ensures.records in
    let end = length file - length c.in-Ok.found.rest.now in
    record {
      ends = part-ends file part ours _ _ all end (λ i. end);
      link = c.in-Ok.ensures.link ∙ sym (part-link file part ours _ _ all);
      clean = (
        λ is. part-with file part ours _ _ all shut end (λ i. end) (c.is_gate.ensures.0 is),
        λ ended. c.is_gate.ensures.1 (part-gate file part ours _ _ all shut end (λ i. end) ended),
      );
      sealed = (
        λ is. part-with file part ours _ _ all seal end (λ i. end) (c.is_gate-2.ensures.0 is),
        λ ended. c.is_gate-2.ensures.1 (part-gate file part ours _ _ all seal end (λ i. end) ended),
      );
    }
