use Rattle.std.proofs.Common.{◌≡◌, ◌++◌, take, All}
use Rattle.std.specs.List.{flat_map}
use Rattle.rite_file.specs.File.{catch_entry, IsHeldEntry}
use Rattle.rite_file.proofs.writing.put_entries.Given as goal

abbrev pub invariant-loop-entry : goal.invariant-loop-entry
invariant-loop-entry l = record {
  bytes : l.out.items ≡ l.fn.out.items ++ flat_map catch_entry (take l.entry-index l.entries);
  held : All IsHeldEntry (take l.entry-index l.entries);
}
