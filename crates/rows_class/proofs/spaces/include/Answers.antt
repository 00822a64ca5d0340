use Rattle.std.proofs.Common.{ap, sym}
use Rattle.std.specs.Prelude.{Option}
use Rattle.rb_value.specs.declared.value.Value.{Value}
use Rattle.def_calls.specs.World.{with_store}
use Rattle.rows_object.proofs.Passing.{same_follows}
use Rattle.rows_class.specs.Spaces.{include, include_all, include_unless}
use Rattle.rows_class.proofs.spaces.include.Goals as goal

pub returns-in-None : goal.returns-in-None
returns-in-None c =
    let space = c.args.space in
    let mixins = c.args.mixins.now in
    let st = c.args.heap.now.store in
    same_follows c.args.heap.now c.include_all.new.heap c.include_all.result
    (include_all space mixins) (include space mixins)
    (λ w. ap (λ (o : Option Value). include_unless space mixins o (with_store w st)) (sym c.in-None.ensures))
    c.include_all.ensures
