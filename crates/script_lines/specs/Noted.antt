-- The past of a device, one response after another.
use Rattle.std.specs.Prelude.{ℕ, ◌+◌, ◌++◌}
use Rattle.script_lines.specs.declared.tape.Answer.{Answer}
use Rattle.script_lines.specs.declared.tape.Answer.TheVariants.{Bytes, End, Failure}
use Rattle.script_lines.specs.declared.tape.History.{History}
use Rattle.script_lines.specs.declared.tape.History.TheVariants.{Nothing, Then}
use Rattle.script_lines.specs.Device.{narrow_after}
use Rattle.script_lines.specs.Tape.{Past, nothing_past}

-- the past after one more call with this much room
abbrev pub called : Past → ℕ → Past
called p room = record p { calls = p.calls + 1; narrow = narrow_after p.narrow room }

-- the past after one more response, to a call with this much room
abbrev pub noted : Past → Answer → ℕ → Past
noted p (Bytes bytes) room = record (called p room) { bytes = p.bytes ++ bytes.now }
noted p End room = record (called p room) { ends = p.ends + 1 }
noted p Failure room = record (called p room) { failures = p.failures + 1 }

-- the past of a history
abbrev pub past_in : History → Past
past_in Nothing = nothing_past
past_in (Then before answer room) = noted before.now.past answer room
