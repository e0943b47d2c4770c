use Rattle.seq_repository.proofs.Standing.{stands_result}
use Rattle.seq_repository.proofs.repository.Repository.apply.Goals as goal

pub returns-clause-after : goal.returns-clause-after
returns-clause-after g c = λ h legal stands.
    stands_result g.row.LIMIT c.args.self.now c.act_by_rows.new.self h c.args.who c.args.call.now c.args.at c.act_by_rows.result legal stands
    c.act_by_rows.ensures.due c.act_by_rows.ensures.rows
