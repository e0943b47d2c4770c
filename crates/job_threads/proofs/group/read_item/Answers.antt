use Rattle.job_threads.specs.Calls.{Reading}
use Rattle.job_threads.proofs.Turns.{within-turned, item-end, item-unread, item-dropped, item-kept, item-unprocessed}
use Rattle.job_threads.proofs.group.read_item.Goals as goal

pub processed-requires : goal.processed-requires
processed-requires g c = within-turned _ _ (Reading c.read.result) _ _ c.read.ensures c.requires.processor

pub returns-in-Err : goal.returns-in-Err
returns-in-Err g c = item-unread c.args.roles c.in-Err.fault _ _ c.requires.reader c.in-Err.ensures

pub returns-in-Ok-None : goal.returns-in-Ok-None
returns-in-Ok-None g c = item-end c.args.roles _ _ (rw c.in-Ok-None.field-0-is at c.in-Ok-None.ensures)

pub returns-in-Err-processed : goal.returns-in-Err-processed
returns-in-Err-processed g c = item-unprocessed c.args.roles c.in-Ok-Some.item c.in-Err-processed.fault _ _ _ c.requires.reader (rw c.in-Ok-Some.field-0-is at c.in-Ok-Some.ensures) c.in-Err-processed.ensures

pub returns-in-Ok-None-processed : goal.returns-in-Ok-None-processed
returns-in-Ok-None-processed g c = item-dropped c.args.roles c.in-Ok-Some.item _ _ _ c.requires.reader (rw c.in-Ok-Some.field-0-is at c.in-Ok-Some.ensures) (rw c.in-Ok-None-processed.field-0-is at c.in-Ok-None-processed.ensures)

pub returns-in-Ok-Some-processed : goal.returns-in-Ok-Some-processed
returns-in-Ok-Some-processed g c = item-kept c.args.roles c.in-Ok-Some.item c.in-Ok-Some-processed.item _ _ _ c.requires.reader (rw c.in-Ok-Some.field-0-is at c.in-Ok-Some.ensures) (rw c.in-Ok-Some-processed.field-0-is at c.in-Ok-Some-processed.ensures)
