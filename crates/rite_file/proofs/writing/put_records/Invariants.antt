use Rattle.std.proofs.Common.{◌≡◌, ◌++◌, take, All}
use Rattle.std.specs.List.{flat_map}
use Rattle.rite_file.specs.File.{record_of, IsHeld}
use Rattle.rite_file.proofs.writing.put_records.Given as goal

abbrev pub invariant-loop-body : goal.invariant-loop-body
invariant-loop-body l = record {
  bytes : l.out.items ≡ l.fn.out.items ++ flat_map record_of (take l.body-index l.bodies);
  held : All IsHeld (take l.body-index l.bodies);
}
