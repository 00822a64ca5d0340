use Rattle.std.proofs.Common.{◌≡◌, ◌++◌, take, All}
use Rattle.std.specs.List.{flat_map}
use Rattle.rite_file.specs.File.{pool_item, IsHeldItem}
use Rattle.rite_file.proofs.writing.put_items.Given as goal

abbrev pub invariant-loop-item : goal.invariant-loop-item
invariant-loop-item l = record {
  bytes : l.out.items ≡ l.fn.out.items ++ flat_map pool_item (take l.item-index l.items);
  held : All IsHeldItem (take l.item-index l.items);
}
