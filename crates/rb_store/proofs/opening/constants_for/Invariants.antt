use Rattle.std.proofs.Common.{◌≡◌, [], drop}
use Rattle.rb_store.specs.Opening.{with_constants_for}
use Rattle.rb_store.proofs.opening.constants_for.Given as goal

abbrev pub invariant-classes : goal.invariant-classes
invariant-classes l = with_constants_for l.constants (drop l.class-index l.classes) ≡ with_constants_for [] l.classes
