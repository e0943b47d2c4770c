use Rattle.std.proofs.Common.{sym, subst}
use Rattle.seq_repository.specs.Kept.{Kept}
use Rattle.row_repository.specs.Settled.{AreSettled}
use Rattle.seq_repository.proofs.restored.RestoredRowRestorationRepository.finish.Goals as goal

pub returns-in-Err-clause-settled : goal.returns-in-Err-clause-settled
returns-in-Err-clause-settled g c = λ apart settled.
    c.in-Err.ensures.settled apart (subst (λ (k : Kept). AreSettled k.catalogue k.records.works k.records.executions) (sym c.self.view_is) settled)
