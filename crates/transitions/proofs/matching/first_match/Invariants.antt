use Rattle.std.proofs.Common.{◌≡◌, drop}
use Rattle.std.specs.List.{AllWithin}
use Rattle.transitions.specs.Transitions.{MatchesOn, matching_transition}
use Rattle.transitions.proofs.matching.first_match.Given as goal

abbrev pub invariant-loop-i : goal.invariant-loop-i
invariant-loop-i l = record {
  none : AllWithin (λ t. ¬ MatchesOn l.exit t) l.transitions 0 l.i;
  same : matching_transition (drop l.i l.transitions) l.exit ≡ matching_transition l.transitions l.exit;
}
