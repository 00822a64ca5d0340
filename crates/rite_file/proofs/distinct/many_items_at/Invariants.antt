use Rattle.std.proofs.Common.{◌≡◌, ◌≤◌, ◌-◌, [], length}
use Rattle.rite_file.specs.Record.{list_at, is_new, item_eq, item_at}
use Rattle.rite_file.specs.Seen.{AreSeen}
use Rattle.rite_file.proofs.distinct.many_items_at.Given as goal

abbrev pub invariant-entries : goal.invariant-entries
invariant-entries l = record {
  within : l.next ≤ length l.bytes;
  same : list_at (is_new item_eq) item_at l.items (l.count - l.counter) l.bytes l.next ≡ list_at (is_new item_eq)
      item_at [] l.count l.bytes l.at;
  seen : AreSeen l.items l.integers l.texts;
}
