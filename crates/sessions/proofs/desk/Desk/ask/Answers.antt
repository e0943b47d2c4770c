use Rattle.std.proofs.Common.{ap, subst}
use Rattle.batch_history.specs.Answers.{answer}
use Rattle.batch_history.specs.Due.{IsDue}
use Rattle.batch_history.specs.Rows.{History, history}
use Rattle.sessions.specs.Sessions.{DeskState}
use Rattle.sessions.proofs.desk.Desk.ask.Goals as goal

pub returns-clause-answer : goal.returns-clause-answer
returns-clause-answer g c =
    let log = ap (λ (d : DeskState). d.log) c.self.view_is in
    subst (λ (h : History). IsDue c.ask.result (answer h c.args.query.now)) (λ i. history (c.self.invariant.catalogue_is i) (log i)) c.ask.ensures
