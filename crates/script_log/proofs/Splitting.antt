-- The first record of a list, and those behind it.
use Rattle.std.proofs.Common.{◌≡◌, ◌-◌, ◌≤◌, List, [], ◌∷◌, ◌++◌, length, take, drop, map, slice_index_or, sym, ap, arith, length-append}
use Rattle.std.proofs.lemmas.List.{take_all, length-map}
use Rattle.durable_log.specs.Format.{LogRecord}
use Rattle.durable_log.specs.Shown.{record_shown}
use Rattle.durable_log.specs.declared.record.Record.{Record}

pub split-shown : (records : List Record) (d : Record) → 1 ≤ length records → map record_shown records ≡ record_shown (slice_index_or records 0 d) ∷ map record_shown (take (length records - 1) (drop 1 records))
split-shown [] d some = absurd (omega arith)
split-shown (r ∷ records) d some = ap (λ (l : List Record). record_shown r ∷ map record_shown l) (sym (take_all (length (r ∷ records) - 1) records (omega arith)))

-- the number of a record is how many stand before it
pub number-is : (all rest : List Record) (done later : List LogRecord) (r : LogRecord) → done ++ r ∷ later ≡ map record_shown all → map record_shown rest ≡ r ∷ later → length all - length rest ≡ length done
number-is all rest done later r split first = omega (arith, length-map all record_shown, length-map rest record_shown, ap length split, ap length first, length-append done (r ∷ later))
