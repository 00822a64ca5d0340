use Rattle.std.proofs.Common.{◌≡◌, drop}
use Rattle.rows_object.specs.Numbers.{are_digits}
use Rattle.rows_object.proofs.kernel.are_digits.Given as goal

abbrev pub invariant-bytes : goal.invariant-bytes
invariant-bytes l = are_digits l.fn.text ≡ are_digits (drop l.byte-index l.text)
