use Rattle.std.proofs.Common.{◌≡◌, drop}
use Rattle.rite_tool.specs.Words.{are_digits}
use Rattle.rite_tool.proofs.words.are_digits.Given as goal

abbrev pub invariant-bytes : goal.invariant-bytes
invariant-bytes l = are_digits (drop l.byte-index l.word) ≡ are_digits l.word
