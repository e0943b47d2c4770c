-- A file that was made is ready.
use Rattle.std.proofs.Common.{◌≡◌, inl, ℕ, List, [], ◌++◌, false, Result, Ok, Err, sym, ap}
use Rattle.std.proofs.lemmas.Bool.{false≢true}
use Rattle.std.specs.Prelude.{OnOk}
use Rattle.std.specs.Result.{is_err}
use Rattle.log_host.specs.Past.{Call}
use Rattle.file_host.specs.Calls.{file_calls}
use Rattle.file_host.specs.Making.{IsReady, keeping, making, was_renamed}
use Rattle.file_host.proofs.Opening.{opening-kept}
use Rattle.file_host.specs.declared.file_fault.FileFault.{FileFault}

pub ready-by : (name cut bytes : List ℕ) (old new : List Call) (r : Result Unit FileFault) → old ≡ [] → is_err r ≡ false → OnOk r (new ≡ making name bytes ++ keeping name cut old) → (n : List ℕ) × IsReady new n bytes
ready-by name cut bytes old new (Ok done) none whole made = (name, inl (keeping name cut old, opening-kept name cut old record { no_bytes = ap file_calls none; no_rename = ap was_renamed none }, made))
ready-by name cut bytes old new (Err fault) none whole made = absurd (false≢true (sym whole))
