use Rattle.std.proofs.Common.{◌≡◌, sym, ◌∙◌}
use Rattle.rb_value.specs.CoreClass.{number_of, core_classes}
use Rattle.rb_store.specs.Opening.{object_constants}
use Rattle.rb_store.proofs.opening.constants_of.Goals as goal

pub returns-then-number-eq0 : goal.returns-then-number-eq0
unfolding object_constants core_classes
returns-then-number-eq0 c = let e : number_of c.args.class ≡ 0 = sym c.number.ensures ∙ c.if-number-eq0.true in
    rw e c.constants_for.ensures
