use Rattle.std.proofs.Common.{◌≡◌, ◌++◌, take}
use Rattle.std.specs.List.{flat_map}
use Rattle.rite_file.specs.File.{text}
use Rattle.rite_file.proofs.writing.put_texts.Given as goal

abbrev pub invariant-loop-bytes : goal.invariant-loop-bytes
invariant-loop-bytes l = l.out.items ≡ l.fn.out.items ++ flat_map text (take l.bytes-index l.texts)
