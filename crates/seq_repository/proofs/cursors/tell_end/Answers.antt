use Rattle.std.proofs.Common.{sym, ◌∙◌}
use Rattle.seq_repository.proofs.Walked.{reported_follows}
use Rattle.seq_repository.proofs.cursors.tell_end.Goals as goal

pub returns-then-is_busy : goal.returns-then-is_busy
returns-then-is_busy c = λ catalogue works row w follows apart there own step at number told.
    reported_follows catalogue works row c.args.cursor.now c.report.new.self w c.args.work.now c.args.outcome c.args.exit.now c.in_ok-key.key step at number
    follows apart (sym c.is_busy.ensures ∙ c.if-is_busy.true) there own c.in_ok-key.ensures c.in_ok-report.ensures.reported
