use Rattle.batch_operator.proofs.Replied.{answered}
use Rattle.batch_operator.proofs.operator.Operator.ask_book.Goals as goal

pub returns : goal.returns
returns g c =
    let e = c.ask.ensures in
    answered _ c.args.session.now c.ask.new.session _ c.args.query.now c.ask.result e.answer e.session e.grows e.own e.legal e.least e.stops
