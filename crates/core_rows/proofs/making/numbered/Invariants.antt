use Rattle.std.proofs.Common.{◌≡◌}
use Rattle.def_rows.specs.Answers as answers
use Rattle.core_rows.proofs.making.numbered.Given as goal

abbrev pub invariant-places : goal.invariant-places
invariant-places l = l.values.items ≡ answers.numbered l.first l.place
