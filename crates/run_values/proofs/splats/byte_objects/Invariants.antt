use Rattle.std.proofs.Common.{◌≡◌, map}
use Rattle.def_rows.specs.Answers.{text_object}
use Rattle.def_rows.specs.RangeRows.{items, texts_of}
use Rattle.run_values.proofs.splats.byte_objects.Given as goal

abbrev pub invariant-places : goal.invariant-places
invariant-places l = l.objects.items ≡ map text_object (texts_of (items l.ends.bounds l.place))
