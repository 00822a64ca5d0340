use Rattle.std.proofs.Common.{ap, sym, subst}
use Rattle.rb_value.specs.declared.value.ObjId.{ObjId}
use Rattle.def_core.specs.Sound.{census, Is, ClassOrModule}
use Rattle.def_calls.specs.World.{with_store}
use Rattle.def_calls.specs.Constants.{set_constant_in}
use Rattle.run_definitions.specs.Enclosing.{enclosed}
use Rattle.run_definitions.proofs.Among.{answers_among}
use Rattle.run_definitions.proofs.Paths.{bare, class_around_is}
use Rattle.run_definitions.proofs.naming.set_constant.Goals as goal

pub set_constant_in-requires-clause-scope : goal.set_constant_in-requires-clause-scope
set_constant_in-requires-clause-scope c =
    let st = c.args.st.now.store in
    subst (Is (census st) ClassOrModule) (sym (c.class_around-class.ensures (bare st)))
    (class_around_is st c.requires.sound c.args.lists.now (bare st) c.args.number c.requires.lists)

pub returns : goal.returns
returns c = answers_among c.args.lists.now c.args.st.now c.set_constant_in.new.st c.set_constant_in.result _
    (λ w. set_constant_in w c.class_around-class.result c.args.name c.args.value)
    (λ w. ap (λ (k : ObjId). set_constant_in (with_store (enclosed c.args.lists.now w) c.args.st.now.store) k
    c.args.name
    c.args.value) (sym (c.class_around-class.ensures (with_store w c.args.st.now.store)))) c.set_constant_in.ensures
