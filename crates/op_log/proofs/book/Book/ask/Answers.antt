use Rattle.std.proofs.Common.{◌≡◌, subst, sym}
use Rattle.batch_history.specs.Answers.{answer}
use Rattle.batch_history.specs.Due.{IsDue}
use Rattle.batch_history.specs.Rows.{History}
use Rattle.op_log.proofs.book.Book.ask.Goals as goal

pub returns : goal.returns
returns g c =
    let h : History = record { catalogue = g.J.JobRepository.jobs c.self.inside.repository; log = c.self.inside.log.items } in
    subst (λ (v : History). IsDue c.ask.result (answer v c.args.query.now)) c.self.view_is (c.ask.ensures h c.self.invariant.0)
