use Rattle.std.proofs.Common.{◌≡◌, ℕ, ◌+◌, ◌-◌, ◌≤◌, length, Some, None, ap, sym, ◌∙◌, subst, arith}
use Rattle.std.specs.Prelude.{slice_get}
use Rattle.batch_history.specs.Rows.{History}
use Rattle.event_core.specs.Worlds.{first}
use Rattle.event_core.proofs.Copying.{next-taken, taken-more, legal-first, ended-at}
use Rattle.event_core.proofs.copies.LaggingCopy.take_in.Goals as goal

pub enter-requires : goal.enter-requires
enter-requires g c =
    let h : History = c.args.book.now in
    let k : ℕ = c.loop-k.self.entries in
    let at : k ≡ c.loop-k.k + 1 - 1 = omega (arith, c.loop-k.invariant.0) in
    let there : slice_get h.log k ≡ Some c.in-Some.entry.now = ap (slice_get h.log) at ∙ sym (c.in-Some.ensures.some (omega arith)) in
    next-taken (g.J.JobRepository.stands c.loop-k.self.repository) h k c.in-Some.entry.now c.len.ensures.legal c.loop-k.invariant.2.stood there

pub unreachable-requires : goal.unreachable-requires
unreachable-requires g c =
    let h : History = c.args.book.now in
    let k : ℕ = c.loop-k.k in
    let at : k ≡ k + 1 - 1 = omega arith in
    let none : slice_get h.log k ≡ None = ap (slice_get h.log) at ∙ sym (c.in-None.ensures.some (omega arith)) in
    let past : length h.log ≤ k = ended-at h.log k none in
    omega arith

pub loop-k-preserved : goal.loop-k-preserved
loop-k-preserved g c =
    let h : History = c.args.book.now in
    let k : ℕ = c.loop-k.k in
    let stands = g.J.JobRepository.stands in
    let at : k ≡ k + 1 - 1 = omega arith in
    let there : slice_get h.log k ≡ Some c.in-Some.entry.now = ap (slice_get h.log) at ∙ sym (c.in-Some.ensures.some (omega arith)) in
    let copy = subst (λ (n : ℕ). stands c.loop-k.self.repository (first n h)) c.loop-k.invariant.0 c.loop-k.invariant.2.stood in
    let entered = c.in_ok-enter-in-Some.ensures.stands (first k h) (legal-first k h c.len.ensures.legal) copy in
    let more = taken-more (stands c.enter.new.self) h k c.in-Some.entry.now there entered in
    (omega arith, omega arith, record { stood = more.0; within = more.1 })
