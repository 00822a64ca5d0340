use Rattle.std.proofs.Common.{◌≡◌}
use Rattle.def_rows.specs.RangeRows.{items, integers_of}
use Rattle.core_range.proofs.items.integers.Given as goal

abbrev pub invariant-places : goal.invariant-places
invariant-places l = l.integers ≡ integers_of (items l.ends.bounds l.place)
