use Rattle.std.proofs.Common.{ℕ, take}
use Rattle.batch_history.specs.Rows.{History}
use Rattle.refused_calls.proofs.Following.{counts-follow, legal-next}
use Rattle.refused_calls.proofs.states.Behind.count.Goals as goal

pub absorb-absorbed-requires : goal.absorb-absorbed-requires
absorb-absorbed-requires c =
    let h : History = c.self.inside.book in
    let n : ℕ = c.self.inside.counted in
    let next = c.in_ok-entry.ensures in
    record { next = (h.catalogue, take n h.log, c.self.invariant.tallied, legal-next h n c.in_ok-entry.entry.now next.legal next.there) }

pub invariant_of-self : goal.invariant_of-self
invariant_of-self c =
    let h : History = c.self.inside.book in
    let n : ℕ = c.self.inside.counted in
    let next = c.in_ok-entry.ensures in
    let stands = c.in-Ok.ensures.absorbed h.catalogue (take n h.log) c.self.invariant.tallied (legal-next h n c.in_ok-entry.entry.now next.legal next.there) in
    counts-follow h c.self.inside.copy.repository c.self.inside.counts c.absorb-absorbed.new.self n c.in_ok-entry.entry.now c.self.invariant next.there stands
