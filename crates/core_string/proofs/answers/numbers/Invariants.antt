use Rattle.std.proofs.Common.{◌≡◌, map, take}
use Rattle.std.specs.Prelude.{pos}
use Rattle.core_string.proofs.answers.numbers.Given as goal

abbrev pub invariant-bytes : goal.invariant-bytes
invariant-bytes l = l.numbers.items ≡ map pos (take l.byte-index l.bytes)
