-- The past of the devices of a program.
use Rattle.std.specs.Prelude.{List}
use Rattle.log_host.specs.Past.{Call}
use Rattle.script_lines.specs.Device.{Told, Held}

-- the past of a reader, of a writer and of a disk
pub record Devices : Type 0 where
  pub told : Told
  pub held : Held
  pub disk : List Call

abbrev pub devices : Told → Held → List Call → Devices
devices told held disk = record { told = told; held = held; disk = disk }
