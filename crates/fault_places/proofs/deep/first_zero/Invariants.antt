use Rattle.std.proofs.Common.{◌≡◌, ◌==◌, ℕ, drop}
use Rattle.fault_places.specs.Sites.{number_from}
use Rattle.fault_places.proofs.deep.first_zero.Given as goal

-- the numbers that are left have the first zero of all
abbrev pub invariant-loop-index : goal.invariant-loop-index
invariant-loop-index l = number_from (λ (left : ℕ). left == 0) l.index (drop l.index l.all) ≡ number_from (λ (left : ℕ). left == 0) 0 l.all
