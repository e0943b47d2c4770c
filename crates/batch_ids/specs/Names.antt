-- Parsing of a printed name.
use Rattle.std.specs.Prelude.{◌≡◌, Option, Result, Ok, IsErr, MatchOption}

-- the result is the value with this name, or an error if no value has it
abbrev pub IsRead : {A E : Type 0} → Option A → Result A E → Type 0
IsRead named read = MatchOption named (IsErr read) (λ one. read ≡ Ok one)
