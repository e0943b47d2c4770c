-- The result due to a call or query, if memory may be refused.
use Rattle.std.specs.Prelude.{◌≡◌, false, Result, Ok, Err}
use Rattle.batch_ids.specs.declared.refusal.Refusal.{Refusal}
use Rattle.batch_ids.specs.Refusals.{is_out_of_memory}

-- the result is the one that is due, unless memory was refused
abbrev pub IsDue : {R : Type 0} → Result R Refusal → Result R Refusal → Type 0
IsDue (Ok reply) due = due ≡ Ok reply
IsDue (Err refusal) due = is_out_of_memory refusal ≡ false → due ≡ Err refusal
