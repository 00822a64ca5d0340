use Rattle.std.proofs.Common.{◌≡◌, ◌≤◌, ◌-◌, ◌+◌, ◌*◌, [], length}
use Rattle.rite_file.specs.Record as specs
use Rattle.rite_file.proofs.records.records_at.Given as goal

abbrev pub invariant-records : goal.invariant-records
invariant-records l = record {
  within : l.next ≤ length l.bytes;
  count : length l.records ≤ 65536;
  few : l.awaited ≤ 1 + length l.records * 65535;
  same : specs.records_at (65536 - length l.records) l.version l.records l.awaited l.bytes l.next
      ≡ specs.records_at 65536 l.version [] 1 l.bytes l.at;
}

abbrev pub decreases-records : goal.decreases-records
decreases-records l = 65536 - length l.records
