use Rattle.std.proofs.Common.{◌≡◌}
use Rattle.def_rows.specs.RangeRows.{items, texts_of}
use Rattle.core_range.proofs.items.texts.Given as goal

abbrev pub invariant-places : goal.invariant-places
invariant-places l = l.texts ≡ texts_of (items l.ends.bounds l.place)
