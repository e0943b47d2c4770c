use Rattle.std.proofs.Common.{ℕ, take}
use Rattle.batch_history.specs.Rows.{History}
use Rattle.event_core.proofs.Copying.{legal-first}
use Rattle.refused_calls.proofs.states.Behind.tell_counts.Goals as goal

pub tell-requires : goal.tell-requires
tell-requires g c =
    let h : History = c.self.inside.book in
    let n : ℕ = c.self.inside.counted in
    record { some = (h.catalogue, take n h.log, c.self.invariant.tallied, legal-first n h c.len-operations.ensures.legal) }
