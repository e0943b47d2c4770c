use Rattle.batch_history.proofs.Legal.{legal_grown}
use Rattle.op_log.specs.Replied.{replied}
use Rattle.op_log.proofs.book.enter_due.Goals as goal

pub enter_accepted-requires : goal.enter_accepted-requires
enter_accepted-requires g c =
    let S = c.requires.stands in
    let e = replied c.args.entry.now c.in_ok-reply.reply in
    record { next = λ entered. (S.0, S.1, legal_grown g.J.JobRepository.limit S.0 e S.2 (c.in_ok-reply.ensures.due S.0 S.1) entered) }
