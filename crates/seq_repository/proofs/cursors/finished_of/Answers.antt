use Rattle.std.proofs.Common.{Option, IfSome, subst}
use Rattle.job_plans.specs.Cursors.{CursorState}
use Rattle.seq_repository.specs.Following.{Follows}
use Rattle.seq_repository.proofs.cursors.finished_of.Goals as goal

pub returns-in-Ok-true : goal.returns-in-Ok-true
returns-in-Ok-true c = λ step at number.
    c.in-Ok-true.ensures c.args.catalogue.now c.args.records.now.works c.args.row.now c.args.w
    (subst (λ (o : Option CursorState). IfSome o (Follows c.args.catalogue.now c.args.records.now.works c.args.row.now)) c.in-Some.is c.requires.kept)
    c.requires.apart c.requires.there c.requires.own step at number c.in-Ok-true.field-0-test
