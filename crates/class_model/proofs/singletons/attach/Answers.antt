use Rattle.std.proofs.Common.{ap, refl, ◌∙◌}
use Rattle.rb_value.specs.Object.{Object}
use Rattle.rb_value.specs.Sort.{sort_of}
use Rattle.def_core.specs.Store.{Store}
use Rattle.def_core.specs.Parts.{with_singleton_class}
use Rattle.class_model.proofs.Attaching.{made_under, singleton_is_sound}
use Rattle.class_model.proofs.singletons.attach.Goals as goal

pub returns-clause-ok : goal.returns-clause-ok
returns-clause-ok c =
    let st = c.args.st.now.store in
    let made = made_under _ _ _ _ _ c.class_object-class.ensures c.empty_class-contents.ensures c.in_ok-object.ensures
    c.superclass_for-superclass.ensures.value in
    c.in_ok-add_singleton.ensures.ok
    ∙ ap (λ (o : Object). let s : Store = record st { objects = with_singleton_class st.objects c.args.id o } in s) made

pub returns-clause-keeps : goal.returns-clause-keeps
returns-clause-keeps c =
    let st = c.args.st.now.store in
    let made = made_under _ _ _ _ _ c.class_object-class.ensures c.empty_class-contents.ensures c.in_ok-object.ensures
    refl in
    c.in_ok-add_singleton.ensures.keeps c.requires.sound (ap (λ (o : Object). sort_of o.kind) made)
    (singleton_is_sound st c.requires.sound _ _ made c.superclass_for-superclass.ensures.class)
