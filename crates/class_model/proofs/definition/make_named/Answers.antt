use Rattle.def_core.specs.Sound.{Superclass, ClassOrModule}
use Rattle.def_core.proofs.Roles.{is_plays}
use Rattle.rb_store.proofs.Keeping.{keeps_itself, keeps_then}
use Rattle.class_model.proofs.Kept.{kept_option, kept_symbol}
use Rattle.class_model.proofs.Naming.{class_is_value}
use Rattle.class_model.proofs.definition.make_named.Goals as goal

pub add_class-requires-clause-sound : goal.add_class-requires-clause-sound
add_class-requires-clause-sound c = c.in_ok-symbol.ensures.keeps.sound

pub add_class-requires-clause-superclass : goal.add_class-requires-clause-superclass
add_class-requires-clause-superclass c =
    kept_option c.args.st.now c.full_name.new.st Superclass c.args.superclass c.in_ok-symbol.ensures.keeps
    c.requires.superclass

pub returns-in_err-id-clause-keeps : goal.returns-in_err-id-clause-keeps
returns-in_err-id-clause-keeps c =
    keeps_then c.args.st.now c.full_name.new.st _ c.in_ok-symbol.ensures.keeps c.in_err-id.ensures.keeps

pub put_constant-requires-clause-is_class : goal.put_constant-requires-clause-is_class
put_constant-requires-clause-is_class c =
    is_plays c.add_class.new.st.store ClassOrModule c.args.scope
    (c.in_ok-id.ensures.keeps.extends.roles ClassOrModule c.args.scope
    (c.in_ok-symbol.ensures.keeps.extends.roles ClassOrModule c.args.scope c.requires.scope))

pub returns-in_err-put_constant-clause-keeps : goal.returns-in_err-put_constant-clause-keeps
returns-in_err-put_constant-clause-keeps c =
    let after = c.add_class.new.st in
    keeps_then c.args.st.now after _
    (keeps_then c.args.st.now c.full_name.new.st after c.in_ok-symbol.ensures.keeps c.in_ok-id.ensures.keeps)
    (keeps_itself after _ c.in_ok-id.ensures.keeps.sound c.in_err-put_constant.ensures.err)

pub returns-clause-class : goal.returns-clause-class
returns-clause-class c =
    let after = c.add_class.new.st in
    let before = keeps_then c.args.st.now c.full_name.new.st after c.in_ok-symbol.ensures.keeps c.in_ok-id.ensures.keeps
    in
    let last = c.in_ok-put_constant.ensures.keeps before.sound
    (kept_symbol c.args.st.now after c.args.name before c.requires.name)
    (class_is_value after.store c.in_ok-id.id c.in_ok-id.ensures.class) in
    last.extends.roles ClassOrModule c.in_ok-id.id c.in_ok-id.ensures.class

pub returns-clause-keeps : goal.returns-clause-keeps
returns-clause-keeps c =
    let after = c.add_class.new.st in
    let before = keeps_then c.args.st.now c.full_name.new.st after c.in_ok-symbol.ensures.keeps c.in_ok-id.ensures.keeps
    in
    keeps_then c.args.st.now after _ before
    (c.in_ok-put_constant.ensures.keeps before.sound
    (kept_symbol c.args.st.now after c.args.name before c.requires.name)
    (class_is_value after.store c.in_ok-id.id c.in_ok-id.ensures.class))
