use Rattle.std.proofs.Common.{ℕ, take, refl}
use Rattle.batch_history.specs.Rows.{History}
use Rattle.event_core.proofs.Copying.{legal-first}
use Rattle.refused_calls.proofs.states.BehindAnswers.ask.Goals as goal

pub tell-requires : goal.tell-requires
tell-requires g c =
    let h : History = c.self.inside.book in
    let n : ℕ = c.self.inside.copy.repository.count in
    record { some = (h.catalogue, take n h.log, record { limit_is = refl; stood = c.self.invariant.copied }, legal-first n h c.len-2.ensures.legal) }
