use Rattle.std.proofs.Common.{◌≡◌, ◌++◌, take}
use Rattle.std.specs.List.{flat_map}
use Rattle.rite_file.specs.File.{record_of}
use Rattle.code_of_core.proofs.image.put_records.Given as goal

abbrev pub invariant-loop-body : goal.invariant-loop-body
invariant-loop-body l = l.out.items ≡ l.fn.out.items ++ flat_map record_of (take l.body-index l.bodies)
