-- The results of the reader, in terms of the format.
use Rattle.std.specs.Prelude.{ℕ, ◌≡◌, ◌↔◌, IsTrue, List}
use Rattle.durable_log.specs.Format.{LogRecord, Column, Absent, Number, Next, End, Damaged, Found}
use Rattle.durable_log.specs.Files.{Later, Foreign, opening}
use Rattle.durable_log.specs.Logs.{link_of, EndsAt, IsAtRest, IsSealed, IsDamagedAt}
use Rattle.durable_log.specs.Parts.{IsPartDamaged}
use Rattle.durable_log.specs.declared.record.Record.{Record}
use Rattle.durable_log.specs.declared.columns.ColumnRead.{ColumnRead}
use Rattle.durable_log.specs.declared.columns.ColumnRead.TheVariants as column_reads
use Rattle.durable_log.specs.declared.place.Place.{Place}
use Rattle.durable_log.specs.declared.place.Place.TheVariants as places
use Rattle.durable_log.specs.declared.reading.End.{End as LogEnd}
use Rattle.durable_log.specs.declared.reading.ReadFault.{ReadFault}
use Rattle.durable_log.specs.declared.reading.ReadFault.TheVariants as faults

-- a record that borrows its line
abbrev pub record_shown : Record → LogRecord
record_shown r = record { mark = r.mark; line = r.line.now; reply_check = r.reply_check }

abbrev pub column_shown : ColumnRead → Column
column_shown column_reads.Absent = Absent
column_shown (column_reads.Number n rest) = Number n rest.now

abbrev pub next_shown : Place → Next
next_shown places.End = End
next_shown places.Damaged = Damaged
next_shown (places.Found r link rest) = Found (record_shown r) link rest.now

-- the records of a file end there. It is clean if it ends right after a shut gate, and sealed if right after a seal
pub record IsEnd (file : List ℕ) (end : LogEnd) : Type 0 where
  pub ends : EndsAt file end.byte
  pub link : end.link ≡ link_of file
  pub clean : IsTrue end.is_clean ↔ IsAtRest file end.byte
  pub sealed : IsTrue end.is_sealed ↔ IsSealed file end.byte

-- a fault of a file
abbrev pub HasFault : List ℕ → ReadFault → Type 0
HasFault file faults.Foreign = opening file ≡ Foreign
HasFault file faults.Later = opening file ≡ Later
HasFault file (faults.Damaged number byte) = IsDamagedAt file number byte
HasFault file faults.OutOfMemory = Unit {0}

-- a fault after a header
abbrev pub HasPartFault : List ℕ → ReadFault → Type 0
HasPartFault bytes faults.Foreign = ⊥
HasPartFault bytes faults.Later = ⊥
HasPartFault bytes (faults.Damaged number byte) = IsPartDamaged bytes number byte
HasPartFault bytes faults.OutOfMemory = Unit {0}
