use Rattle.std.proofs.Common.{◌≡◌, map}
use Rattle.def_rows.specs.Answers.{text_object}
use Rattle.core_rows.proofs.making.text_objects.Given as goal

abbrev pub invariant-texts : goal.invariant-texts
invariant-texts l = l.objects.items ≡ map text_object l.yielded
