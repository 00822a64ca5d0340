use Rattle.std.proofs.Common.{◌≡◌, ◌≤◌, ◌-◌, [], length}
use Rattle.rite_file.specs.Record.{list_at, any, catch_at}
use Rattle.rite_file.proofs.lists.catches_at.Given as goal

abbrev pub invariant-entries : goal.invariant-entries
invariant-entries l = record {
  within : l.next ≤ length l.bytes;
  same : list_at any catch_at l.catches (l.count - l.counter) l.bytes l.next ≡ list_at any catch_at [] l.count l.bytes
      l.at;
}
