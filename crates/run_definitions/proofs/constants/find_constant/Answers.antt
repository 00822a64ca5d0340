use Rattle.std.proofs.Common.{ap, sym, ◌∙◌, filter, subst}
use Rattle.std.specs.Prelude.{Option, not}
use Rattle.rb_value.specs.declared.value.Value.{Value}
use Rattle.rb_value.specs.declared.value.ObjId.{ObjId}
use Rattle.rb_value.specs.declared.core_class.CoreClass.TheVariants as class
use Rattle.def_core.specs.Store.{core, same_object}
use Rattle.def_core.specs.Classes.{class_at, ancestors}
use Rattle.def_core.specs.Changes.{constant_in}
use Rattle.def_core.specs.Sound.{census, Is, ClassOrModule}
use Rattle.def_calls.specs.World.{World, class_around, classes_around, with_store}
use Rattle.def_calls.specs.Constants.{option_or, first_constant, constant_path, find_constant, constant_within}
use Rattle.run_definitions.specs.Enclosing.{enclosed}
use Rattle.run_definitions.proofs.Paths.{bare, first_path, class_around_is}
use Rattle.run_definitions.proofs.constants.find_constant.Goals as goal

pub inherited_constant-requires-clause-class : goal.inherited_constant-requires-clause-class
inherited_constant-requires-clause-class c =
    let st = c.args.st.now.store in
    subst (Is (census st) ClassOrModule) (sym (c.class_around.ensures (bare st)))
    (class_around_is st c.requires.sound c.args.lists.now (bare st) c.args.number c.requires.lists)

pub returns-in-Some-clause-constant : goal.returns-in-Some-clause-constant
unfolding find_constant constant_path
returns-in-Some-clause-constant c = λ w.
    let st = c.args.st.now.store in
    let at : World = with_store (enclosed c.args.lists.now w) st in
    let inherited = option_or (first_constant st.objects (ancestors st.objects
    (class_around at c.args.number)) c.args.name)
    (constant_in (class_at st.objects (core class.Object)).constants c.args.name) in
    ap (λ (o : Option Value). option_or o inherited) (c.in-Some.ensures.constant (with_store w st))
    ∙ sym (first_path st.objects c.args.name
    (filter (λ k. not (same_object k (core class.Object))) (classes_around at c.args.number))
    (ancestors st.objects (class_around at c.args.number)) (core class.Object))

pub returns-in-None-clause-constant : goal.returns-in-None-clause-constant
unfolding find_constant constant_path constant_within
returns-in-None-clause-constant c = λ w.
    let st = c.args.st.now.store in
    let at : World = with_store (enclosed c.args.lists.now w) st in
    let inherited = option_or (first_constant st.objects (ancestors st.objects
    (class_around at c.args.number)) c.args.name)
    (constant_in (class_at st.objects (core class.Object)).constants c.args.name) in
    c.inherited_constant.ensures.constant w
    ∙ ap (λ (k : ObjId). option_or (first_constant st.objects (ancestors st.objects k) c.args.name)
    (constant_in (class_at st.objects (core class.Object)).constants c.args.name))
    (c.class_around.ensures (with_store w st))
    ∙ ap (λ (o : Option Value). option_or o inherited) (c.in-None.ensures.constant (with_store w st))
    ∙ sym (first_path st.objects c.args.name
    (filter (λ k. not (same_object k (core class.Object))) (classes_around at c.args.number))
    (ancestors st.objects (class_around at c.args.number)) (core class.Object))
