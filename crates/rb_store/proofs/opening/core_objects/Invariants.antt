use Rattle.std.proofs.Common.{◌≡◌, take, map}
use Rattle.rb_store.specs.Opening.{core_object}
use Rattle.rb_store.proofs.opening.core_objects.Given as goal

abbrev pub invariant-classes : goal.invariant-classes
invariant-classes l = l.objects ≡ map core_object (take l.class-index l.classes)
