use Rattle.std.proofs.Common.{◌≡◌, Result, Ok, Err, ap, subst}
use Rattle.batch_history.specs.Due.{IsDue}
use Rattle.batch_history.specs.declared.query.Answer.{Answer}
use Rattle.batch_history.specs.declared.query.Answer.TheVariants.{StatusCounts as AreCounts}
use Rattle.batch_history.specs.declared.query.CountsByStatus.{CountsByStatus}
use Rattle.batch_history.specs.declared.query.Query.TheVariants.{StatusCounts}
use Rattle.batch_ids.specs.declared.refusal.Refusal.{Refusal}
use Rattle.read_copies.specs.States.{counts_after}
use Rattle.batch_operator.proofs.Replied.{answered}
use Rattle.batch_operator.proofs.operator.Operator.status_counts.Goals as goal

abbrev answer_of : Result CountsByStatus Refusal → Result Answer Refusal
answer_of (Ok counts) = Ok (AreCounts counts)
answer_of (Err refusal) = Err refusal

pub returns-in-Some-Ok : goal.returns-in-Some-Ok
returns-in-Some-Ok g c =
    let e = c.in-Some-Ok.ensures in
    let due = counts_after g.N.Site.place.catalogue c.read.new.session.seen tt in
    let told : due ≡ Ok c.in-Some-Ok.counts = subst (λ (said : Result CountsByStatus Refusal). IsDue said due) c.in-Some-Ok.field-0-is e.answer in
    answered _ c.args.session.now c.read.new.session c.read.new.session.seen StatusCounts (Ok (AreCounts c.in-Some-Ok.counts)) (ap answer_of told) e.session e.grows e.own e.legal e.least e.stops

pub returns-in-Some-Err : goal.returns-in-Some-Err
returns-in-Some-Err g c =
    let e = c.in-Some-Err.ensures in
    let due = counts_after g.N.Site.place.catalogue c.read.new.session.seen tt in
    let told = subst (λ (said : Result CountsByStatus Refusal). IsDue said due) c.in-Some-Err.field-0-is e.answer in
    answered _ c.args.session.now c.read.new.session c.read.new.session.seen StatusCounts (Err c.in-Some-Err.refusal) (λ known. ap answer_of (told known)) e.session e.grows e.own e.legal e.least e.stops
