-- The check of a catalogue, as the program runs it.
use Rattle.std.specs.Prelude.{◌≡◌, ◌⊎◌, ℕ, ◌<◌, List, Option, Result, Ok, Err}
use Rattle.jsl_json.specs.declared.fault.ReadFault.{ReadFault}
use Rattle.script_lines.specs.Device.{Told, Held, Takes}
use Rattle.script_lines.specs.Unread.{Unread, nothing_read}
use Rattle.script_lines.specs.Lines.{LineRead, ShowsFirst}
use Rattle.script_lines.specs.declared.line.Line.{Line}
use Rattle.script_lines.specs.declared.line_fault.LineFault.TheVariants as lines
use Rattle.script_engine.specs.declared.fault.EngineFault.{EngineFault}
use Rattle.script_engine.specs.declared.fault.EngineFault.TheVariants.{Catalogue, Read, Write, OutOfMemory}
use Rattle.catalogue_checks.specs.Verdicts.{IsVerdict}

-- how a check ends that told of a catalogue, or failed to
abbrev pub checked_outcome : Result Unit ReadFault → Result Unit EngineFault
checked_outcome (Ok done) = Ok done
checked_outcome (Err fault) = Err (Catalogue fault)

abbrev pub ended : Result Unit EngineFault → Result Unit ReadFault → Result Unit EngineFault
ended (Ok done) outcome = checked_outcome outcome
ended (Err fault) outcome = Err fault

-- the line about a catalogue, which is good or has a fault, is the only output
abbrev pub TellsAll : List ℕ → Held → Held → Result Unit ReadFault → Type 0
TellsAll line w w' outcome = (text : List ℕ) × IsVerdict line text outcome × Takes w w' text × (w'.failures ≡ w.failures)

-- the output about the catalogue in a line, by the result
abbrev pub TellsVerdict : List ℕ → Held → Held → Result Unit EngineFault → Type 0
TellsVerdict line w w' (Ok done) = TellsAll line w w' (Ok done)
TellsVerdict line w w' (Err (Catalogue fault)) = TellsAll line w w' (Err fault)
TellsVerdict line w w' (Err Read) = ⊥
TellsVerdict line w w' (Err Write) = w.failures < w'.failures
TellsVerdict line w w' (Err OutOfMemory) = Unit {0}

-- the first line was read, and there is the output about it
pub record IsFirstChecked (r r' : Told) (w w' : Held) (result : Result Unit EngineFault) : Type 0 where
  pub left : Unread
  pub first : Option Line
  pub line : List ℕ
  pub read : LineRead r r' nothing_read left (Ok first)
  pub shown : ShowsFirst first line
  pub told : TellsVerdict line w w' result

-- the reader failed before it gave the first line
abbrev pub IsFirstUnread : Told → Told → Held → Held → Result Unit EngineFault → Type 0
IsFirstUnread r r' w w' result = (left : Unread) × LineRead r r' nothing_read left (Err lines.Read) × (result ≡ Err Read) × (w' ≡ w)

-- THE CHECK: the first line was read and checked, or the reader failed, or memory was refused before that
abbrev pub HasChecked : Told → Told → Held → Held → Result Unit EngineFault → Type 0
HasChecked r r' w w' result = IsFirstChecked r r' w w' result ⊎ IsFirstUnread r r' w w' result ⊎ ((result ≡ Err OutOfMemory) × (w' ≡ w))
