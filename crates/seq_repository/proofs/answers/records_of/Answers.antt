use Rattle.std.proofs.Common.{map, reverse, ap, ◌∙◌}
use Rattle.batch_history.specs.Answers.{record_of}
use Rattle.seq_repository.proofs.Readers.{all_read, records_turned}
use Rattle.seq_repository.proofs.answers.records_of.Goals as goal

pub returns : goal.returns
returns c =
    c.reverse.ensures.items
    ∙ (ap reverse (all_read c.loop-row.found.items _ _ (ap (map record_of) c.in-None.ensures.steps.0) c.loop-row.invariant)
    ∙ records_turned c.args.i c.args.rows.now.executions)
