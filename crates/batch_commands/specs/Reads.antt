-- Lines that are read from a reader, one call after another.
use Rattle.std.specs.Prelude.{◌≡◌, ℕ, List, [], ◌∷◌, Option, Some, Result, Ok}
use Rattle.script_lines.specs.declared.line.Line.{Line}
use Rattle.script_lines.specs.declared.line_fault.LineFault.{LineFault}
use Rattle.script_lines.specs.Device.{Told}
use Rattle.script_lines.specs.Lines.{LineRead}
use Rattle.script_lines.specs.Unread.{Unread}

-- these lines were read, one by each call
abbrev pub AreRead : Told → Unread → List (List ℕ) → Told → Unread → Type 0
AreRead r p [] r' p' = (r' ≡ r) × (p' ≡ p)
AreRead r p (line ∷ lines) r' p' =
    (shown : Line) × (next : Told) × (left : Unread) × (call : LineRead r next p left (Ok (Some shown))) × (line ≡ call.outcome.0)
    × AreRead next left lines r' p'

-- these lines were read, and the call for the next one had this result
abbrev pub AreReadTo : Told → Unread → List (List ℕ) → Result (Option Line) LineFault → Told → Unread → Type 0
AreReadTo r p lines last r' p' = (now : Told) × (left : Unread) × AreRead r p lines now left × LineRead now r' left p' last
