-- The record of a call in the past.
use Rattle.std.specs.Prelude.{ℕ, [], ◌∷◌, Bool, true, false}
use Rattle.log_host.specs.Past.{Past, Call}
use Rattle.log_host.specs.declared.tape.Asked.{Asked}
use Rattle.log_host.specs.declared.tape.Asked.TheVariants as asked
use Rattle.log_host.specs.declared.tape.Making.{Making}
use Rattle.log_host.specs.declared.tape.Making.TheVariants as making
use Rattle.log_host.specs.declared.tape.History.{History}
use Rattle.log_host.specs.declared.tape.History.TheVariants.{Begun, Same, Then}

abbrev pub flag : Bool → ℕ
flag true = 1
flag false = 0

-- a call by which the file was opened or made
abbrev pub making_call : Making → Call
making_call (making.Take name ok) = (5, (0, (name.now, flag ok)))
making_call (making.Read bytes) = (6, (0, (bytes.now, 1)))
making_call (making.Keep bytes ok) = (10, (0, (bytes.now, flag ok)))
making_call (making.Draft name ok) = (7, (0, (name.now, flag ok)))
making_call (making.Rename name ok) = (8, (0, (name.now, flag ok)))
making_call (making.SyncFolder name ok) = (9, (0, (name.now, flag ok)))

abbrev pub call_of : Asked → Call
call_of (asked.Write at bytes ok) = (0, (at, (bytes.now, flag ok)))
call_of (asked.Sync ok) = (1, (0, ([], flag ok)))
call_of (asked.Tell piece n ok) = (2, (n, (piece.now, flag ok)))
call_of asked.Refused = (3, (0, ([], 0)))
call_of asked.Silent = (4, (0, ([], 0)))
call_of (asked.Made call) = making_call call

abbrev pub past_in : History → Past
past_in (Begun start) = record { start = start.now; calls = [] }
past_in (Same tape) = tape.now.past
past_in (Then before call) = record { start = before.now.past.start; calls = call_of call ∷ before.now.past.calls }
