use Rattle.batch_operator.proofs.Replied.{replied}
use Rattle.batch_operator.proofs.operator.Operator.act.Goals as goal

pub returns : goal.returns
returns g c =
    let e = c.act.ensures in
    replied _ _ c.args.session.now c.act.new.session _ _ c.args.call c.args.at c.act.result c.args.self.now.full e.reply e.log e.session e.grows e.own e.legal e.least e.stops
