use Rattle.std.proofs.Common.{◌≡◌, map}
use Rattle.rb_value.specs.declared.value.Value.TheVariants.{Int}
use Rattle.def_rows.specs.RangeRows.{items, integers_of}
use Rattle.run_values.proofs.splats.integers.Given as goal

abbrev pub invariant-places : goal.invariant-places
invariant-places l = l.values.items ≡ map Int (integers_of (items l.ends.bounds l.place))
