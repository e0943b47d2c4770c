use Rattle.std.proofs.Common.{◌≡◌, [], replicate}
use Rattle.event_core.specs.Copies.{AreCopies, lengths}
use Rattle.event_core.proofs.copies.empty_copies.Given as goal

abbrev pub invariant-loop : goal.invariant-loop
invariant-loop g l =
    AreCopies g.J.JobRepository.stands record { catalogue = l.catalogue; log = [] } l.copies.items × (lengths l.copies.items ≡ replicate l.counter 0)
