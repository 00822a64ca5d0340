use Rattle.std.proofs.Common.{ap, sym, subst, ◌∙◌}
use Rattle.rb_value.specs.declared.value.ObjId.{ObjId}
use Rattle.def_core.specs.Sound.{census, Is, ClassOrModule}
use Rattle.def_calls.specs.World.{World, with_store}
use Rattle.def_calls.specs.Constants.{find_constant, get_constant, constant_or_fail}
use Rattle.run_definitions.specs.Enclosing.{enclosed}
use Rattle.run_definitions.proofs.Among.{answers_among}
use Rattle.run_definitions.proofs.Paths.{bare, class_around_is}
use Rattle.run_definitions.proofs.constants.get_constant.Goals as goal

pub constant_or_fail-requires-clause-scope : goal.constant_or_fail-requires-clause-scope
constant_or_fail-requires-clause-scope c =
    let st = c.args.st.now.store in
    subst (Is (census st) ClassOrModule) (sym (c.class_around-scope.ensures (bare st)))
    (class_around_is st c.requires.sound c.args.lists.now (bare st) c.args.number c.requires.lists)

pub returns : goal.returns
unfolding get_constant
returns c = answers_among c.args.lists.now c.args.st.now c.constant_or_fail.new.st c.constant_or_fail.result
    (λ w. get_constant w c.args.number c.args.name)
    (λ w. constant_or_fail w c.class_around-scope.result c.args.name c.find_constant-constant.result)
    (λ w.
    let at : World = with_store (enclosed c.args.lists.now w) c.args.st.now.store in
    ap (λ (k : ObjId). constant_or_fail at k c.args.name (find_constant at c.args.number c.args.name))
    (sym (c.class_around-scope.ensures (with_store w c.args.st.now.store)))
    ∙ ap (constant_or_fail at c.class_around-scope.result c.args.name)
    (sym (c.find_constant-constant.ensures.constant w))) c.constant_or_fail.ensures
