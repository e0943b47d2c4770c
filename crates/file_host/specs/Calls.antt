-- The calls of the disk, as they are noted.
use Rattle.std.specs.Prelude.{ℕ, zero, suc, List, [], ◌∷◌, Bool, true, false, Result, Ok, Err, if◌then◌else◌}
use Rattle.log_host.specs.Past.{Call}

-- 1 if a call succeeded
abbrev pub flag_of : {A E : Type 0} → Result A E → ℕ
flag_of (Ok value) = 1
flag_of (Err fault) = 0

module _ {A E : Type 0} where
  abbrev pub write_call : ℕ → List ℕ → Result A E → Call
  write_call at bytes result = (0, (at, (bytes, flag_of result)))

  abbrev pub sync_call : Result A E → Call
  sync_call result = (1, (0, ([], flag_of result)))

  abbrev pub take_call : List ℕ → Result A E → Call
  take_call name result = (5, (0, (name, flag_of result)))

  abbrev pub draft_call : List ℕ → Result A E → Call
  draft_call name result = (7, (0, (name, flag_of result)))

  abbrev pub keep_call : List ℕ → Result A E → Call
  keep_call bytes result = (10, (0, (bytes, flag_of result)))

  abbrev pub rename_call : List ℕ → Result A E → Call
  rename_call name result = (8, (0, (name, flag_of result)))

  abbrev pub folder_call : List ℕ → Result A E → Call
  folder_call name result = (9, (0, (name, flag_of result)))

abbrev pub read_call : List ℕ → Call
read_call bytes = (6, (0, (bytes, 1)))

-- whether a call of a host is one of its file: a write or a sync
abbrev pub is_file_call : ℕ → Bool
is_file_call zero = true
is_file_call (suc zero) = true
is_file_call (suc (suc kind)) = false

-- the calls of the file among those of a host
abbrev pub file_calls : List Call → List Call
file_calls [] = []
file_calls (call ∷ calls) = if is_file_call call.0 then call ∷ file_calls calls else file_calls calls
