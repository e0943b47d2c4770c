use Rattle.std.proofs.Common.{◌≡◌, drop, find}
use Rattle.std.specs.Str.{bytes_eq}
use Rattle.batch_ids.specs.Statuses.{outcome_name, outcome_named}
use Rattle.batch_ids.proofs.status.WorkOutcomeFromStr.from_str.Given as goal

abbrev pub invariant-loop-outcome : goal.invariant-loop-outcome
invariant-loop-outcome l =
    find (λ outcome. bytes_eq (outcome_name outcome) l.text) (drop l.outcome-index l.outcome-items) ≡ outcome_named l.text
