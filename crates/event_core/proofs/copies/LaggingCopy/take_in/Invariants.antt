use Rattle.std.proofs.Common.{◌≡◌, ◌≤◌, max}
use Rattle.event_core.specs.Copies.{IsCopy}
use Rattle.event_core.proofs.copies.LaggingCopy.take_in.Given as goal

abbrev pub invariant-loop-k : goal.invariant-loop-k
invariant-loop-k g l =
    (l.self.entries ≡ l.k) × (l.self.entries ≤ max l.initial.self.entries l.due) × IsCopy g.J.JobRepository.stands l.book l.self
