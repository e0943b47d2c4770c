-- The faults that end a run before its script's end.
use Rattle.std.specs.Prelude.{Bool, true, false}
use Rattle.script_lines.specs.declared.line_fault.LineFault.{LineFault}
use Rattle.script_lines.specs.declared.line_fault.LineFault.TheVariants as lines
use Rattle.script_engine.specs.declared.fault.EngineFault.{EngineFault}
use Rattle.script_engine.specs.declared.fault.EngineFault.TheVariants.{Catalogue, Read, Write, OutOfMemory}

-- the fault that ends a run if there is no next line
abbrev pub engine_fault : LineFault → EngineFault
engine_fault lines.Read = Read
engine_fault lines.Write = Write
engine_fault lines.OutOfMemory = OutOfMemory

-- whether the writer failed
abbrev pub is_of_writer : EngineFault → Bool
is_of_writer (Catalogue fault) = false
is_of_writer Read = false
is_of_writer Write = true
is_of_writer OutOfMemory = false
