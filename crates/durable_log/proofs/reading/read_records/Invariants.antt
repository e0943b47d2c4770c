use Rattle.std.proofs.Common.{◌≡◌, ◌≤◌, length, map}
use Rattle.durable_log.specs.Files.{link_behind}
use Rattle.durable_log.specs.Parts.{IsRead}
use Rattle.durable_log.specs.Shown.{record_shown}
use Rattle.durable_log.proofs.reading.read_records.Given as goal

abbrev pub invariant-records : goal.invariant-records
invariant-records l = record {
  so_far : IsRead l.bytes (map record_shown l.records.items) l.rest;
  linked : l.link ≡ link_behind (map record_shown l.records.items);
  within : length l.rest ≤ length l.bytes;
}

abbrev pub decreases-records : goal.decreases-records
decreases-records l = length l.rest
