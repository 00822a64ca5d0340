use Rattle.std.proofs.Common.{sym, subst}
use Rattle.def_core.specs.Sound.{census, Is, ClassOrModule}
use Rattle.run_definitions.proofs.Paths.{object_class}
use Rattle.run_definitions.proofs.constants.inherited_constant.Goals as goal

pub own_constant-requires-clause-class : goal.own_constant-requires-clause-class
own_constant-requires-clause-class c =
    let st = c.args.st.now.store in
    subst (Is (census st) ClassOrModule) (sym c.class_object.ensures) (object_class st c.requires.sound)
