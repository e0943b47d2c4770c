-- The effect of a call for the next line of a reader, if nobody waits for replies.
use Rattle.std.specs.Prelude.{Option, Result, Ok, Err}
use Rattle.script_lines.specs.Device.{Told}
use Rattle.script_lines.specs.Unread.{Unread}
use Rattle.script_lines.specs.Lines.{LineRead}
use Rattle.script_lines.specs.declared.line.Line.{Line}
use Rattle.script_lines.specs.declared.line_fault.LineFault.TheVariants as lines
use Rattle.script_engine.specs.declared.fault.EngineFault.{EngineFault}
use Rattle.script_engine.specs.declared.fault.EngineFault.TheVariants.{Catalogue, Read, Write, OutOfMemory}

module _ (old new : Told) (before after : Unread) where
  -- the reader delivered more and a line was cut off, or the reader failed or may not be called again, or
  -- memory was refused
  abbrev pub NextLine : Result (Option Line) EngineFault → Type 0
  NextLine (Ok line) = LineRead old new before after (Ok line)
  NextLine (Err (Catalogue fault)) = ⊥
  NextLine (Err Read) = LineRead old new before after (Err lines.Read)
  NextLine (Err Write) = ⊥
  NextLine (Err OutOfMemory) = LineRead old new before after (Err lines.OutOfMemory)
