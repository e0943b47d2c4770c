-- Calls that open a file.
use Rattle.std.proofs.Common.{ℕ, List, [], ◌∷◌}
use Rattle.log_host.specs.Past.{Call}
use Rattle.file_host.specs.Making.{IsOpening, keeping}

-- an opening that has kept what was cut off is still one
pub opening-kept : (name cut : List ℕ) (calls : List Call) → IsOpening calls → IsOpening (keeping name cut calls)
opening-kept name [] calls opening = opening
opening-kept name (b ∷ cut) calls opening = record { no_bytes = opening.no_bytes; no_rename = opening.no_rename }
