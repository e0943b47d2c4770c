-- Purges (this service's own). A job instance exists until a Purge names it. So do its job executions, their
-- work items and the checkpoints of its steps.
use Rattle.std.specs.List.{list_any}
use Rattle.std.specs.Prelude.{ℕ, Bool, List}
use Rattle.batch_history.specs.Lists.{is_at}
use Rattle.batch_history.specs.Operations.{purged_by}
use Rattle.batch_history.specs.declared.call.Entry.{Entry}

-- whether some entry is a Purge that names job instance i
abbrev pub is_purged : List Entry → ℕ → Bool
is_purged past i = list_any (λ e. is_at i (purged_by e.call)) past
