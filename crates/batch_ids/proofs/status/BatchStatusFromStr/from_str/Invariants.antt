use Rattle.std.proofs.Common.{◌≡◌, drop, find}
use Rattle.std.specs.Str.{bytes_eq}
use Rattle.batch_ids.specs.Statuses.{status_name, status_named}
use Rattle.batch_ids.proofs.status.BatchStatusFromStr.from_str.Given as goal

abbrev pub invariant-loop-status : goal.invariant-loop-status
invariant-loop-status l =
    find (λ status. bytes_eq (status_name status) l.text) (drop l.status-index l.status-items) ≡ status_named l.text
