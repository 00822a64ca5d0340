use Rattle.std.proofs.Common.{◌≡◌, map, take}
use Rattle.rb_value.specs.declared.value.Value.TheVariants.{Int}
use Rattle.core_rows.proofs.making.integers.Given as goal

abbrev pub invariant-numbers : goal.invariant-numbers
invariant-numbers l = l.values.items ≡ map Int (take l.number-index l.numbers)
