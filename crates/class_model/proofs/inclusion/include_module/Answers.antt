use Rattle.std.proofs.Common.{◌++◌, List, ap, sym, ◌∙◌, subst}
use Rattle.rb_value.specs.declared.value.ObjId.{ObjId}
use Rattle.def_core.specs.Changes.{new_members}
use Rattle.def_core.specs.Sound.{census, Module, Is, AllAre}
use Rattle.class_model.proofs.Included.{included_are}
use Rattle.class_model.proofs.inclusion.include_module.Goals as goal

pub returns-clause-keeps : goal.returns-clause-keeps
returns-clause-keeps c =
    let st = c.args.st.now.store in
    let list = c.from_vec.ensures ∙ c.in_ok-extend_from_slice.ensures.items
    ∙ ap (λ (xs : List ObjId). xs ++ c.included_in.result.now) c.in_ok-list.ensures
    ∙ ap (λ (xs : List ObjId). new_members st.objects c.args.class c.args.mixin ++ xs) c.included_in.ensures in
    c.put_included.ensures.keeps c.requires.sound
    (subst (AllAre (Is (census st) Module)) (sym list)
    (included_are st c.requires.sound c.args.class c.args.mixin c.requires.class c.requires.mixin))
